-- The preprocessor of gcc's plans looks for headers in the folders in which its source is scanned.
use Rattle.std.proofs.Common.{◌≡◌, inl, inr, ℕ, Bool, true, false, ◌==◌, List, [], ◌∷◌, ◌++◌, codes, Option, Some, None, Result, Ok, Err, refl, sym, ap, subst, ◌∙◌}
use Rattle.std.specs.Prelude.{IfSome, bytes_eq, is_some, not}
use Rattle.std.proofs.lemmas.Bool.{cases_Bool}
use Rattle.text_lines.specs.Cuts.{split_at_byte}
use Rattle.text_lines.specs.Maybe.{◌>>=◌, ◌>>◌}
use Rattle.thunk_codec.specs.Folder.{folder_of, is_folder}
use Rattle.thunk_codec.specs.Path.{path_of}
use Rattle.thunk_codec.specs.Thunk.{is_identifier}
use Rattle.tool_text.specs.Expand.{with_macro}
use Rattle.tool_text.specs.Cpp.{Settings, no_settings, folder_as_is, with_folder, with_definition, without_definition, with_argument, with_arguments}
use Rattle.file_tree.specs.Planning.{refuse_if, refuse_at}
use Rattle.file_tree.specs.Planning as planning
use Rattle.file_tree.specs.declared.model_fault.PlanFault.{PlanFault}
use Rattle.file_tree.specs.declared.model_fault.Reason.TheVariants.{NoValue, OneFile, NoInput, NeedsOutput, WrongKind, TooMany}
use Rattle.include_scan.specs.Scanned.{IsOver}
use Rattle.model_gcc.specs.declared.gcc_plan.GccPlan.{GccPlan}
use Rattle.model_gcc.specs.declared.gcc_plan.Stop.{Stop}
use Rattle.model_gcc.specs.declared.slots.Slots.{Slots}
use Rattle.model_gcc.specs.declared.word_class.Key.{Key}
use Rattle.model_gcc.specs.declared.word_class.Key.TheVariants.{Output, IncludeFolder, Define, Undefine, LibraryFolder, LibraryName}
use Rattle.model_gcc.specs.declared.word_class.WordClass.{WordClass}
use Rattle.model_gcc.specs.declared.word_class.WordClass.TheVariants.{StopAt, OutputOption, ValueOption, PassedOn, Unmodelled, File}
use Rattle.model_gcc.specs.Checks.{has_file, needs_output, shared_output, first_unfit, is_within}
use Rattle.model_gcc.specs.Plan.{stop_of, plan_with, planned, plan_of}
use Rattle.model_gcc.specs.Slots.{Reading, no_words, valid, with_value, with_option, with_output, stages_to, with_stop, with_passed_word, with_file, with_class, with_next, with_word, with_words}
use Rattle.model_gcc.specs.Values.{after_first, after_option, library_name_of, macro_name_of, definition_of, passed_word_of}
use Rattle.model_gcc.specs.WordClass.{class_of}

-- the arguments give these folders, if they are of their form
abbrev pub GiveFolders : List (List ℕ) → List (List ℕ) → Type 0
GiveFolders args folders = IfSome (with_arguments args no_settings) (λ settings. settings.folders ≡ folders)

-- one argument more, after others
arguments-more : (args : List (List ℕ)) (arg : List ℕ) (settings : Settings) → with_arguments (args ++ arg ∷ []) settings ≡ (with_arguments args settings >>= λ now. with_argument arg now)
arguments-more [] arg settings = by (with_argument arg settings)
  where
    by : (now : Option Settings) → (now >>= λ last. Some last) ≡ now
    by None = refl
    by (Some last) = refl
arguments-more (first ∷ args) arg settings = by (with_argument first settings) (arguments-more args arg)
  where
    by : (now : Option Settings) → ((settings : Settings) → with_arguments (args ++ arg ∷ []) settings ≡ (with_arguments args settings >>= λ now. with_argument arg now)) →
        (now >>= λ last. with_arguments (args ++ arg ∷ []) last) ≡ ((now >>= λ last. with_arguments args last) >>= λ last. with_argument arg last)
    by None rest = refl
    by (Some last) rest = rest last

give-more : (args : List (List ℕ)) (arg : List ℕ) (folders more : List (List ℕ)) → GiveFolders args folders →
    ((settings : Settings) → settings.folders ≡ folders → IfSome (with_argument arg settings) (λ now. now.folders ≡ more)) → GiveFolders (args ++ arg ∷ []) more
give-more args arg folders more give step =
    subst (λ (last : Option Settings). IfSome last (λ settings. settings.folders ≡ more)) (sym (arguments-more args arg no_settings)) (by (with_arguments args no_settings) give)
  where
    by : (now : Option Settings) → IfSome now (λ settings. settings.folders ≡ folders) → IfSome (now >>= λ last. with_argument arg last) (λ settings. settings.folders ≡ more)
    by None h = tt
    by (Some settings) h = step settings h

-- ---- each kind of argument

folder-argument : (folder : List ℕ) (folders : List (List ℕ)) (settings : Settings) → settings.folders ≡ folders → IfSome (with_argument (codes "-I" ++ folder) settings) (λ now. now.folders ≡ folders ++ folder ∷ [])
unfolding with_argument
folder-argument folder folders settings is = by (is_folder folder)
  where
    by : (test : Bool) → IfSome ((test >> Some folder) >>= λ f. Some (record settings { folders = settings.folders ++ f ∷ [] })) (λ now. now.folders ≡ folders ++ folder ∷ [])
    by true = ap (λ fs. fs ++ folder ∷ []) is
    by false = tt

definition-argument : (definition : List ℕ) (folders : List (List ℕ)) (settings : Settings) → settings.folders ≡ folders → IfSome (with_argument (codes "-D" ++ definition) settings) (λ now. now.folders ≡ folders)
unfolding with_argument
definition-argument definition folders settings is = by (split_at_byte 61 definition)
  where
    by_test : (test : Bool) (later : Settings) → later.folders ≡ settings.folders → IfSome (test >> Some later) (λ now. now.folders ≡ folders)
    by_test true later same = same ∙ is
    by_test false later same = tt

    by : (cut : Option (List ℕ × List ℕ)) → IfSome (cut >>= λ cut. is_identifier cut.0 >> Some (record settings { macros = with_macro cut.0 (Some cut.1) settings.macros })) (λ now. now.folders ≡ folders)
    by None = tt
    by (Some cut) = by_test (is_identifier cut.0) (record settings { macros = with_macro cut.0 (Some cut.1) settings.macros }) refl

name-argument : (name : List ℕ) (folders : List (List ℕ)) (settings : Settings) → settings.folders ≡ folders → IfSome (with_argument (codes "-U" ++ name) settings) (λ now. now.folders ≡ folders)
unfolding with_argument
name-argument name folders settings is = by (is_identifier name)
  where
    by : (test : Bool) → IfSome (test >> Some (record settings { macros = with_macro name None settings.macros })) (λ now. now.folders ≡ folders)
    by true = is
    by false = tt

-- ---- what is given so far

-- the arguments of the preprocessor give the include folders
abbrev Agrees : Slots → Type 0
Agrees given = GiveFolders given.cpp_words given.include_folders

-- the same, where nothing is refused
abbrev AgreesAfter : Reading → Type 0
AgreesAfter (Ok given) = Agrees given
AgreesAfter (Err fault) = Unit {0}

-- what is valid goes on
valid-agrees : {A : Type 0} (given : Slots) (found : Option A) (next : A → Reading) → ((x : A) → AgreesAfter (next x)) → AgreesAfter (planning.◌>>=◌ (valid given found) next)
valid-agrees given None next h = tt
valid-agrees given (Some x) next h = h x

value-agrees : (key : Key) (value : List ℕ) (given : Slots) → Agrees given → AgreesAfter (with_value key value given)
value-agrees Output value given h = valid-agrees given (path_of value) _ (λ path. h)
value-agrees IncludeFolder value given h = valid-agrees given (folder_of value) _ (λ folder.
    give-more given.cpp_words (codes "-I" ++ folder) given.include_folders (given.include_folders ++ folder ∷ []) h (folder-argument folder given.include_folders))
value-agrees Define value given h = valid-agrees given (definition_of value) _ (λ definition.
    give-more given.cpp_words (codes "-D" ++ definition) given.include_folders given.include_folders h (definition-argument definition given.include_folders))
value-agrees Undefine value given h = valid-agrees given (macro_name_of value) _ (λ name.
    give-more given.cpp_words (codes "-U" ++ name) given.include_folders given.include_folders h (name-argument name given.include_folders))
value-agrees LibraryFolder value given h = valid-agrees given (folder_of value) _ (λ folder. h)
value-agrees LibraryName value given h = valid-agrees given (library_name_of value) _ (λ name. h)

option-agrees : (key : Key) (value : List ℕ) (given : Slots) → Agrees given → AgreesAfter (with_option key value given)
option-agrees key value given h = elim (cases_Bool (bytes_eq value [])) [ inl waits ↦ rw waits h | inr joined ↦ rw joined (value-agrees key value given h) ]

output-agrees : (earlier : Option ℕ) (value : List ℕ) (given : Slots) → Agrees given → AgreesAfter (with_output earlier value given)
output-agrees None value given h = option-agrees Output value (record given { output_at = Some given.at }) h
output-agrees (Some earlier) value given h = tt

stop-agrees : (earlier : Option Stop) (stop : Stop) (given : Slots) → Agrees given → AgreesAfter (with_stop earlier stop given)
stop-agrees None stop given h = h
stop-agrees (Some earlier) stop given h = elim (cases_Bool (stages_to earlier == stages_to stop)) [ inl same ↦ rw same h | inr other ↦ rw other tt ]

class-agrees : (class : WordClass) (word : List ℕ) (given : Slots) → Agrees given → AgreesAfter (with_class class word given)
class-agrees (StopAt stop) word given h = stop-agrees given.stop stop given h
class-agrees OutputOption word given h = output-agrees given.output_at (after_option word) given h
class-agrees (ValueOption key) word given h = option-agrees key (after_option word) given h
class-agrees PassedOn word given h = valid-agrees given (passed_word_of word) _ (λ passed. h)
class-agrees Unmodelled word given h = tt
class-agrees File word given h = valid-agrees given (path_of word) _ (λ path. h)

next-agrees : (waiting : Option Key) (word : List ℕ) (given : Slots) → Agrees given → AgreesAfter (with_next waiting word given)
next-agrees (Some key) word given h = value-agrees key word (record given { waiting = None }) h
next-agrees None word given h = class-agrees (class_of word) word given h

word-agrees : (word : List ℕ) (given : Slots) → Agrees given → AgreesAfter (with_word word given)
unfolding with_word
word-agrees word given h = next-agrees given.waiting word _ h

words-agree : (words : List (List ℕ)) (given : Slots) → Agrees given → AgreesAfter (with_words words given)
words-agree [] given h = h
words-agree (word ∷ words) given h = by (with_word word given) (word-agrees word given h) (words-agree words)
  where
    by : (step : Reading) → AgreesAfter step → ((given : Slots) → Agrees given → AgreesAfter (with_words words given)) → AgreesAfter (planning.◌>>=◌ step (λ given. with_words words given))
    by (Ok given) h rest = rest given h
    by (Err fault) h rest = tt

-- ---- the plan

-- a test that was passed
passed : {A : Type 0} (refused : Option PlanFault) (next : Result A PlanFault) (x : A) → planning.◌>>◌ refused next ≡ Ok x → next ≡ Ok x
passed None next x e = e
passed (Some fault) next x e = absurd cc

planned-agrees : (words : List (List ℕ)) (given : Slots) (plan : GccPlan) → Agrees given → planned words given ≡ Ok plan → GiveFolders plan.cpp_words plan.include_folders
unfolding planned
planned-agrees words given plan h e =
    let one = passed (refuse_if (is_some given.waiting) given.at NoValue) _ plan e in
    let two = passed (refuse_if (not (has_file given.operands)) 0 NoInput) _ plan one in
    let three = passed (refuse_if (needs_output (stop_of given) given.output) 0 NeedsOutput) _ plan two in
    let four = passed (refuse_at (shared_output given) OneFile) _ plan three in
    let five = passed (refuse_at (first_unfit (stop_of given) given.operands given.places) WrongKind) _ plan four in
    let six = passed (refuse_if (not (is_within words given.operands)) 0 TooMany) (Ok (plan_with given)) plan five in
    subst (λ (plan : GccPlan). GiveFolders plan.cpp_words plan.include_folders) (same-plan (plan_with given) plan six) h
  where
    same-plan : (x y : GccPlan) → ◌≡◌ {A = Result GccPlan PlanFault} (Ok x) (Ok y) → x ≡ y
    same-plan x y e = ap (λ (r : Result GccPlan PlanFault). elim r [ Ok z ↦ z | Err fault ↦ x ]) e

agrees-from : (words : List (List ℕ)) (reading : Reading) (plan : GccPlan) → AgreesAfter reading → planning.◌>>=◌ reading (λ given. planned words given) ≡ Ok plan → GiveFolders plan.cpp_words plan.include_folders
agrees-from words (Ok given) plan h e = planned-agrees words given plan h e
agrees-from words (Err fault) plan h e = absurd cc

-- the preprocessor of each plan of some words is over the source that is scanned
pub scans_are_over : (words : List (List ℕ)) (plan : GccPlan) → plan_of words ≡ Ok plan → (source : List ℕ) → IsOver plan.include_folders source (source ∷ plan.cpp_words)
scans_are_over words plan e source = record {
  others = plan.cpp_words;
  source_first = refl;
  folders_behind = agrees-from words (with_words (after_first words) no_words) plan (words-agree (after_first words) no_words refl) e;
}
