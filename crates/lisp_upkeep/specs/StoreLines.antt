-- The lines of what a store keeps, each with its line feed.
use Rattle.std.specs.Prelude.{ℕ, List, ◌++◌, codes}
use Rattle.std.specs.Fmt.{decimal}
use Rattle.lisp_nonces.specs.declared.pair.PairKind.{PairKind}
use Rattle.lisp_nonces.specs.declared.pair.PairKind.TheVariants.{Sent, Received, Notice}
use Rattle.lisp_store.specs.PairName.{pair_name}
use Rattle.lisp_store.specs.declared.kept_nonce.KeptNonce.{KeptNonce}
use Rattle.lisp_store.specs.declared.found_files.Damage.{Damage}
use Rattle.lisp_store.specs.declared.found_files.Damage.TheVariants.{Content, NoFile, Denied, Unread}
use Rattle.lisp_store.specs.declared.found_files.DamagedFile.{DamagedFile}
use Rattle.lisp_upkeep.specs.declared.store_lines.StoreWord.{StoreWord}
use Rattle.lisp_upkeep.specs.declared.store_lines.StoreWord.TheVariants.{Found, Raised}
use Rattle.lisp_upkeep.specs.Line.{identity_text}

-- what is said of a nonce, in a word
abbrev pub store_word : StoreWord → List ℕ
store_word Found = codes "found"
store_word Raised = codes "raised"

-- the kind of a nonce, in a word
abbrev pub kind_text : PairKind → List ℕ
kind_text Sent = codes "sent"
kind_text Received = codes "received"
kind_text Notice = codes "notice"

-- `WORD KIND `
abbrev pub kind_words : StoreWord → PairKind → List ℕ
kind_words word kind = store_word word ++ codes " " ++ kind_text kind ++ codes " "

-- `WORD KIND SITE XTR key K nonce N`: Key ID and nonce in decimal without leading zeros
abbrev pub kept_text : StoreWord → KeptNonce → List ℕ
kept_text word k = kind_words word k.pair.kind ++ identity_text k.pair.router ++ codes " key " ++ decimal k.pair.key ++ codes " nonce " ++ decimal k.nonce ++ codes "\n"

-- why no nonce can be read of a file, in a word
abbrev pub damage_text : Damage → List ℕ
damage_text Content = codes "content"
damage_text NoFile = codes "no-file"
damage_text Denied = codes "denied"
damage_text Unread = codes "unread"

-- `damaged FILE WHY`: the name of the file in its folder
abbrev pub damaged_text : DamagedFile → List ℕ
damaged_text d = codes "damaged " ++ pair_name d.pair ++ codes " " ++ damage_text d.damage ++ codes "\n"

-- `store NAME nonces N damaged M`
abbrev pub sum_text : List ℕ → ℕ → ℕ → List ℕ
sum_text name nonces damaged = codes "store " ++ name ++ codes " nonces " ++ decimal nonces ++ codes " damaged " ++ decimal damaged ++ codes "\n"
