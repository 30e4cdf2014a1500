-- What the card `fib` writes as thunks are thunks.
use Rattle.std.proofs.Common.{◌≡◌, ◌≤◌, ◌<◌, ◌^◌, ◌∙◌, ℕ, suc, List, [], ◌∷◌, Bool, Some, length, get_or, true, false, refl, sym, ap, subst, arith, ne_eqb}
use Rattle.std.specs.Prelude.{decimal, bytes_eq, codes, map, nat_eq, nat_le, not, if◌then◌else◌}
use Rattle.std.specs.Cmp.Lexicographic.{pointwise}
use Rattle.std.specs.List.{starts_with, AllByRecursion}
use Rattle.std.proofs.lemmas.Bool.{and_from, not_from_false, lt-leb}
use Rattle.object_name.specs.declared.kind.Kind.TheVariants as kinds
use Rattle.object_name.specs.Kind.{kind_of, thunk_mark}
use Rattle.object_name.specs.Name.{ObjectName, max_size, name_of}
use Rattle.object_name.proofs.PublicLaws.{decimal_digit_at}
use Rattle.text_lines.specs.Maybe.{bind_some, test_some}
use Rattle.thunk_codec.specs.declared.job.Job.{Job}
use Rattle.thunk_codec.specs.declared.job.Outcome.TheVariants.{Done}
use Rattle.thunk_codec.specs.Job.{only_input}
use Rattle.thunk_codec.specs.declared.reference.Ref.TheVariants.{Value, Out}
use Rattle.thunk_codec.specs.Path.{is_path, path_of, components_of, after_pieces}
use Rattle.thunk_codec.specs.Thunk.{keeps_rules}
use Rattle.thunk_codec.specs.Reference.{IsRef}
use Rattle.thunk_codec.specs.Thunk.{IsThunk, text_of, has_no_zero}
use Rattle.thunk_codec.proofs.PublicLaws.{rules_from}
use Rattle.tool_text.specs.declared.fib_thunks.Asked.{Asked}
use Rattle.tool_text.specs.Fib.{GivesThunksFrom2, add_name, asked_of, contents_of, fib_outputs, fib_thunk, index_of, sum_thunk, thunk_texts, thunks_of, value_name}
use Rattle.tool_text.specs.Numbers.{number_line}
use Rattle.tool_text.proofs.FibTextsWritten.{fib_is_short, fib_text_is, sum_is_short}

no_zero_from : (text : List ℕ) → ((i : ℕ) → i < length text → 48 ≤ get_or text i 0) → has_no_zero text ≡ true
no_zero_from [] h = refl
no_zero_from (byte ∷ text) h =
    let here = h 0 (omega arith) in
    and_from _ _ (not_from_false _ (ne_eqb byte 0 (λ e. omega (arith, here, e)))) (no_zero_from text (λ i below. h (suc i) (omega (arith, below))))

digits_have_no_zero : (n : ℕ) → n < 2 ^ 64 → has_no_zero (decimal n) ≡ true
digits_have_no_zero n fits = no_zero_from (decimal n) (λ i below. (decimal_digit_at n i fits below).0)

fib_keeps_rules : (asked : Asked) (n : ℕ) → n < 2 ^ 64 → keeps_rules (fib_thunk asked n) ≡ true
unfolding is_path path_of components_of after_pieces
fib_keeps_rules asked n fits = and_from _ _ (and_from _ _ (and_from _ _ (digits_have_no_zero n fits) refl) refl) refl

sum_keeps_rules : (asked : Asked) (left right : ObjectName) → keeps_rules (sum_thunk asked left right) ≡ true
unfolding is_path path_of components_of after_pieces
sum_keeps_rules asked left right = refl

pub fib_is_thunk : (asked : Asked) (n : ℕ) → IsRef (Value asked.function) → IsRef (Value asked.add) → n < 2 ^ 64 → IsThunk (fib_thunk asked n)
fib_is_thunk asked n function add fits =
    rules_from (fib_thunk asked n) (record { function = function; inputs = (add, tt) })
    (fib_is_short asked n (text_of (fib_thunk asked n)) fits function.0 add.0 refl) (fib_keeps_rules asked n fits)

pub sum_is_thunk : (asked : Asked) (left right : ObjectName) → IsRef (Value asked.add) → IsRef (Out left 0) → IsRef (Out right 0) → IsThunk (sum_thunk asked left right)
sum_is_thunk asked left right add first second =
    rules_from (sum_thunk asked left right) (record { function = add; inputs = (first, (second, tt)) })
    (sum_is_short asked left right add.0 first.0 second.0) (sum_keeps_rules asked left right)

-- the texts of thunks are of their kind
pub fib_is_of_thunk : (asked : Asked) (n : ℕ) (text : List ℕ) → text ≡ text_of (fib_thunk asked n) → kind_of text ≡ kinds.Thunk
fib_is_of_thunk asked n text is = ap kind_of (is ∙ fib_text_is asked n) ∙ refl

-- the name of a value is of that kind
value_is_value : (bytes : List ℕ) (name : ObjectName) → value_name bytes ≡ Some name → name.kind ≡ kinds.Value
value_is_value bytes name e =
    let short = test_some (nat_le (length bytes) max_size) _ name e in
    let plain = test_some (not (starts_with nat_eq bytes thunk_mark)) (Some (name_of bytes)) name short.1 in
    let same : name_of bytes ≡ name = let e = plain.1 in cc in
    sym (ap (λ name. name.kind) same) ∙ by_test (starts_with nat_eq bytes thunk_mark) plain.0
  where
    by_test : (test : Bool) → not test ≡ true → (if test then kinds.Thunk else kinds.Value) ≡ kinds.Value
    by_test true h = absurd cc
    by_test false h = refl

-- what a job asks for has names of values
pub asked_of_values : (job : Job) (asked : Asked) → asked_of job ≡ Some asked → (asked.function.kind ≡ kinds.Value) × (asked.add.kind ≡ kinds.Value)
asked_of_values job asked e =
    let outputs = test_some (pointwise bytes_eq job.outputs fib_outputs) _ asked e in
    let number = bind_some (index_of job.args) _ asked outputs.1 in
    let function = bind_some (value_name job.function) _ asked number.2 in
    let add = bind_some (add_name job.inputs) _ asked function.2 in
    let same : record { number = number.0; function = function.0; add = add.0 } ≡ asked = let e = add.2 in cc in
    let input = bind_some (only_input (codes "add") job.inputs) value_name add.0 add.1 in
    (sym (ap (λ (a : Asked). a.function.kind) same) ∙ value_is_value job.function function.0 function.1, sym (ap (λ (a : Asked). a.add.kind) same) ∙ value_is_value input.0 add.0 input.2)

-- the contents of what is asked for are the texts of its thunks, where it is 2 or more
contents_from_2 : (asked : Asked) → 2 ≤ asked.number → contents_of asked ≡ map text_of (thunks_of asked)
contents_from_2 asked two =
    ap (λ test. if test then number_line asked.number ∷ [] ∷ [] ∷ [] else thunk_texts asked) (lt-leb asked.number 1 (omega (arith, two)))

pub gives_thunks : (job : Job) (found : Asked) (contents : List (List ℕ)) → asked_of job ≡ Some found → contents ≡ contents_of found
    → (2 ≤ found.number → found.function.kind ≡ kinds.Value → found.add.kind ≡ kinds.Value → AllByRecursion IsThunk (thunks_of found)) → GivesThunksFrom2 job (Done contents)
gives_thunks job found contents is contents_are rules asked same two =
    let one : found ≡ asked = let both : Some found ≡ Some asked = sym is ∙ same in cc in
    let values = asked_of_values job asked same in
    record {
      texts = ap Done (contents_are ∙ (ap contents_of one ∙ contents_from_2 asked two));
      rules = subst (λ (asked : Asked). 2 ≤ asked.number → asked.function.kind ≡ kinds.Value → asked.add.kind ≡ kinds.Value → AllByRecursion IsThunk (thunks_of asked)) one rules two values.0 values.1;
    }
