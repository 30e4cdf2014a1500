-- What is written to a sink and read from a source whose bytes are told.
use Rattle.std.specs.Prelude.{◌≡◌, ℕ, ◌≤◌, List, ◌++◌, length, Option}
use Rattle.std.specs.Io.KnownBytes.{Appends, Consumes}

-- the list begins with the prefix
pub record IsPrefix {A : Type 0} (prefix all : List A) : Type 0 where
  pub rest : List A
  pub whole : all ≡ prefix ++ rest

-- known bytes grow by a prefix of these bytes
pub record AppendsPrefix (before after : Option (List ℕ)) (bytes : List ℕ) : Type 0 where
  pub prefix : List ℕ
  pub is_prefix : IsPrefix prefix bytes
  pub grown : Appends before after prefix

-- known bytes lose a prefix of this length
pub record LosesPrefix (before after : Option (List ℕ)) (size : ℕ) : Type 0 where
  pub prefix : List ℕ
  pub sized : length prefix ≡ size
  pub lost : Consumes before after prefix

-- known bytes lose a prefix of this length at most
pub record LosesUpTo (before after : Option (List ℕ)) (size : ℕ) : Type 0 where
  pub prefix : List ℕ
  pub sized : length prefix ≤ size
  pub lost : Consumes before after prefix
