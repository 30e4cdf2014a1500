-- The words of `worker`: `HOST:PORT`, and `[--times N]`.
use Rattle.std.specs.Prelude.{ℕ, List, [], ◌∷◌, nat_eq, ◌==◌, Bool, true, false, not, Option, Some, None, bytes_eq, codes, if◌then◌else◌}
use Rattle.std.specs.List.{starts_with}
use Rattle.text_lines.specs.Cuts.{with_byte}
use Rattle.text_lines.specs.Maybe.{◌>>=◌, ◌>>◌, check}
use Rattle.gg_cli.specs.declared.command.Command.{Command}
use Rattle.gg_cli.specs.declared.command.Command.TheVariants.{Worker}
use Rattle.gg_cli.specs.NumberWords.{number_within}

-- the greatest number of a port
abbrev pub max_port : ℕ
max_port = 65535

-- the most connections that may be asked for
abbrev pub max_times : ℕ
max_times = 1000000

-- the bytes before the last stop byte, and those after it
unfoldable pub split_at_last : ℕ → List ℕ → Option (List ℕ × List ℕ)
split_at_last stop [] = None
split_at_last stop (byte ∷ text) = elim (split_at_last stop text) [
  | Some cut ↦ Some (with_byte byte cut)
  | None ↦ if byte == stop then Some ([], text) else None
]

-- whether a text is a host: it isn't empty
abbrev pub is_host : List ℕ → Bool
is_host [] = false
is_host (byte ∷ text) = true

-- the port of an address, which is cut at its last colon into a host and a port
abbrev pub port_of : List ℕ → Option ℕ
port_of word = do
  cut ← split_at_last 58 word
  check (is_host cut.0)
  number_within 1 max_port cut.1

-- the address that a word is: none that begins with `-`
abbrev pub address_of : List ℕ → Option (List ℕ)
address_of word = do
  check (not (starts_with nat_eq word (codes "-")))
  port ← port_of word
  Some word

-- what follows the address: nothing, or the number of connections
abbrev pub times_of : List (List ℕ) → Option (Option ℕ)
times_of [] = Some None
times_of (option ∷ []) = None
times_of (option ∷ value ∷ []) = do
  check (bytes_eq option (codes "--times"))
  times ← number_within 1 max_times value
  Some (Some times)
times_of (option ∷ value ∷ word ∷ words) = None

-- what follows `worker`
abbrev pub worker_of : List (List ℕ) → Option Command
worker_of [] = None
worker_of (word ∷ words) = do
  address ← address_of word
  times ← times_of words
  Some (Worker address times)
