-- The one site of a fresh server (RFC 9301 section 8.2).
use Rattle.std.specs.Prelude.{ℕ, Bool, false, List, codes}
use Rattle.lisp_records.specs.Address.{PrefixValue}
use Rattle.lisp_policy.specs.Site.{SiteValue, single}
use Rattle.lisp_answer.specs.DefaultPrefix.{default_prefix}

-- a site with one key and one prefix
pub record AnswerSetupValue : Type 0 where
  pub site : ℕ
  pub key : ℕ
  pub secret : List ℕ
  pub prefix : PrefixValue
  pub more_specifics : Bool

-- the sites of the fresh server: this one alone
abbrev pub sites_of : AnswerSetupValue → List SiteValue
sites_of s = single s.site s.key s.secret s.prefix s.more_specifics

-- the site that is answered for where nothing else is asked: one key, the text `secret`, 10.1.0.0/16
abbrev pub default_setup : AnswerSetupValue
default_setup = record {
  site = 1;
  key = 1;
  secret = codes "secret";
  prefix = default_prefix;
  more_specifics = false;
}
