-- Whether the tag of a message checks (RFC 9301 sections 5.6 and 5.7).
use Rattle.std.specs.Prelude.{ℕ, Bool, false, List, [], ◌∷◌, ◌++◌, Option, Some, None, if◌then◌else◌, codes}
use Rattle.std.specs.List.{find}
use Rattle.lisp_policy.specs.Site.{SiteValue, site_of, secret_of}
use Rattle.lisp_messages.specs.Authentic.{is_authentic}
use Rattle.lisp_messages.specs.Message.{MessageValue, Registers, Notifies}
use Rattle.lisp_transcript.specs.declared.tag.Tag.{Tag}
use Rattle.lisp_transcript.specs.declared.tag.Tag.TheVariants.{Checks, ChecksFor, Fails, Unknown}
use Rattle.lisp_transcript.specs.Pieces.{site_text}

-- under a secret, if there is one
abbrev pub secret_tag : List ℕ → Option (List ℕ) → Tag
secret_tag bytes (Some secret) = if is_authentic bytes secret then Checks else Fails
secret_tag bytes None = Unknown

-- under the secret of a site, if there is one, with a Key ID
abbrev pub site_tag : List ℕ → ℕ → Option SiteValue → Tag
site_tag bytes key (Some site) = secret_tag bytes (secret_of site key)
site_tag bytes key None = Unknown

-- the site has a secret with the Key ID, and the tag checks under it
abbrev pub is_under : List ℕ → Option (List ℕ) → Bool
is_under bytes (Some secret) = is_authentic bytes secret
is_under bytes None = false

abbrev pub is_of : List ℕ → ℕ → SiteValue → Bool
is_of bytes key site = is_under bytes (secret_of site key)

-- the site that was found
abbrev pub found_tag : Option SiteValue → Tag
found_tag (Some site) = ChecksFor site.id
found_tag None = Fails

-- where no site is named: under the first secret with the Key ID under which it checks
abbrev pub any_tag : List SiteValue → List ℕ → ℕ → Tag
any_tag [] bytes key = Unknown
any_tag (first ∷ others) bytes key = found_tag (find (is_of bytes key) (first ∷ others))

-- what the tag of a message shows, by the secrets of sites
abbrev pub tag_of : List SiteValue → List ℕ → MessageValue → Tag
tag_of sites bytes (Registers m) = site_tag bytes m.key_id (site_of sites m.site)
tag_of sites bytes (Notifies m) = any_tag sites bytes m.key_id

-- the site under whose secret it checks
unfoldable pub checked_text : ℕ → List ℕ
checked_text site = codes " tag checks site " ++ site_text site

unfoldable pub tag_text : Tag → List ℕ
tag_text Checks = codes " tag checks"
tag_text (ChecksFor site) = checked_text site
tag_text Fails = codes " tag fails"
tag_text Unknown = codes " tag unknown"
