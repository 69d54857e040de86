-- What a rule and a line find for a host, where they are good.
use Rattle.std.specs.Prelude.{◌≡◌, true, false, Some}
use Rattle.ascii.specs.Ascii.{Bytes, is_none}
use Rattle.hosts.specs.Host.{labels, is_host}
use Rattle.suffix.specs.Suffix.{read_rule}
use Rattle.suffix.specs.code.Pass.{best_of, one_rule, read_line}
use Rattle.suffix.specs.code.Depth.{Good}
use Rattle.suffix.specs.declared.Sizes.{Sizes}

-- the rule w, where it is a host
pub record FindsHost (host w : Bytes) (r : Sizes) : Type 0 where
  pub is : is_host w ≡ true → Some r ≡ best_of (labels host) (one_rule (read_rule w))

-- the rule w, where it is one
pub record FindsRule (host w : Bytes) (r : Sizes) : Type 0 where
  pub is : is_none (one_rule (read_rule w)) ≡ false → Some r ≡ best_of (labels host) (one_rule (read_rule w))

-- the line w, where it is good
pub record FindsLine (host w : Bytes) (r : Sizes) : Type 0 where
  pub is : Good w → Some r ≡ best_of (labels host) (read_line w)
