-- Why reading a whole source stopped short.
use Rattle.std.specs.Prelude.{ℕ, Result, Ok, Err}
use Rattle.object_name.specs.declared.trouble.Trouble.{Trouble}
use Rattle.object_name.specs.declared.trouble.Trouble.TheVariants.{Failed, Memory}
use Rattle.object_name.specs.declared.source.ReadEnd.{ReadEnd}
use Rattle.object_name.specs.declared.source.ReadEnd.TheVariants as end

-- the end that a trouble brings
abbrev pub end_of_trouble : Trouble → ReadEnd
end_of_trouble Failed = end.Failed
end_of_trouble Memory = end.Memory

-- how many faults the answer of a whole reading is
abbrev pub reading_faults : {T : Type 0} → Result T ReadEnd → ℕ
reading_faults (Ok value) = 0
reading_faults (Err end.TooLong) = 0
reading_faults (Err end.Failed) = 1
reading_faults (Err end.Memory) = 0
