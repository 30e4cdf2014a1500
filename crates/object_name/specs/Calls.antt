-- Objects in memory, of which the calls with listed numbers fail. Calls are numbered from 1.
use Rattle.std.specs.Prelude.{ℕ, ◌+◌, ◌-◌, ◌^◌, ◌==◌, min, Bool, if◌then◌else◌, List, refl}
use Rattle.std.specs.Coded.{Coded, code_by, coded×, coded_list, coded_ℕ}
use Rattle.std.specs.List.{list_any}

-- the numbers of the calls that are to fail, how many calls were made, and how many of them failed
pub record CallList : Type 0 where
  pub failing : List ℕ
  pub count : ℕ
  pub faults : ℕ

-- before the first call
abbrev pub not_called : List ℕ → CallList
not_called failing = record { failing = failing; count = 0; faults = 0 }

-- one more, or the last value of a count of 64 bits
abbrev pub risen : ℕ → ℕ
risen count = min (count + 1) (2 ^ 64 - 1)

-- the next call is to fail
abbrev pub fails_next : CallList → Bool
fails_next calls = list_any (λ number. number == calls.count + 1) calls.failing

-- what the next call leaves
abbrev pub after_call : CallList → CallList
after_call calls = record {
  failing = calls.failing;
  count = risen calls.count;
  faults = if fails_next calls then risen calls.faults else calls.faults;
}

-- bytes that are left to read or were written, and the calls
pub record MemBytes : Type 0 where
  pub content : List ℕ
  pub calls : CallList

-- how the calls are stored where they are a part of a value
abbrev pub calls_code : Coded CallList
calls_code =
    code_by (List ℕ × (ℕ × ℕ)) (coded× (coded_list coded_ℕ) (coded× coded_ℕ coded_ℕ)) (λ c. (c.failing, (c.count, c.faults)))
    (λ p. record { failing = p.0; count = p.1.0; faults = p.1.1 }) (λ _. refl)
