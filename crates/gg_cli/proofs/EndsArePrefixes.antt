-- What each end of a command line leaves is a prefix of all that the answer does.
use Rattle.std.proofs.Common.{ℕ, List, [], Option, inl, inr, sym, append-nil}
use Rattle.std.specs.Io.KnownBytes.{Appends}
use Rattle.object_name.specs.Streams.{AppendsPrefix}
use Rattle.gg_cli.specs.declared.status.Status.{Status}
use Rattle.gg_cli.specs.declared.status.Status.TheVariants.{StoreFault, FileFault, ByteFault, Memory}
use Rattle.gg_cli.specs.Answer.{Answer}
use Rattle.gg_cli.specs.Comes.{Made, IsWhole, IsMemory, Comes}

-- a whole text is a prefix of itself
pub AppendsPrefix-whole : (b c : Option (List ℕ)) (text : List ℕ) → Appends b c text → AppendsPrefix b c text
AppendsPrefix-whole b c text h = record { prefix = text; is_prefix = record { rest = []; whole = sym (append-nil text) }; grown = h }

whole_memory : (a : Answer) (m : Made) (status : Status) → IsWhole a m status → IsMemory a m
whole_memory a m status h = inr (record { all = h.all; text = AppendsPrefix-whole _ _ _ h.text })

-- what any status leaves is a prefix of all
pub Comes-memory : (a : Answer) (m : Made) (status : Status) → Comes a m status → IsMemory a m
Comes-memory a m StoreFault h = inl h
Comes-memory a m FileFault h = inl h
Comes-memory a m ByteFault h = inr h.prints
Comes-memory a m Memory h = h
Comes-memory a m status h = whole_memory a m status h
