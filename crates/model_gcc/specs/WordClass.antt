-- What the words of a command line of gcc are, each by itself.
use Rattle.std.specs.Prelude.{ℕ, List, Bool, false, true, ◌||◌, nat_eq, bytes_eq, codes, if◌then◌else◌}
use Rattle.std.specs.List.{starts_with}
use Rattle.model_gcc.specs.declared.gcc_plan.Stop.TheVariants.{Preprocess, Compile, Assemble}
use Rattle.model_gcc.specs.declared.word_class.Key.TheVariants.{IncludeFolder, Define, Undefine, LibraryFolder, LibraryName}
use Rattle.model_gcc.specs.declared.word_class.WordClass.{WordClass}
use Rattle.model_gcc.specs.declared.word_class.WordClass.TheVariants.{StopAt, OutputOption, ValueOption, PassedOn, Unmodelled, File}

-- whether a word begins so
abbrev pub begins : List ℕ → List ℕ → Bool
begins word beginning = starts_with nat_eq word beginning

-- a word for the linker, the assembler or the preprocessor alone
abbrev pub is_for_a_part : List ℕ → Bool
is_for_a_part word = begins word (codes "-Wl,") || begins word (codes "-Wa,") || begins word (codes "-Wp,")

-- a word about optimization, debugging or the machine
abbrev pub is_optimization : List ℕ → Bool
is_optimization word = begins word (codes "-O") || begins word (codes "-g") || begins word (codes "-m")

-- a word about warnings, features or the standard
abbrev pub is_language : List ℕ → Bool
is_language word = begins word (codes "-W") || begins word (codes "-f") || begins word (codes "-std=")

-- a word that asks for the standard alone
abbrev pub is_standard : List ℕ → Bool
is_standard word = bytes_eq word (codes "-ansi") || bytes_eq word (codes "-pedantic") || bytes_eq word (codes "-pedantic-errors")

-- another word that is passed on
abbrev pub is_general : List ℕ → Bool
is_general word = bytes_eq word (codes "-w") || bytes_eq word (codes "-pipe") || bytes_eq word (codes "-pthread")

-- a word that is passed on to the compiler as it is
unfoldable pub is_passed_on : List ℕ → Bool
is_passed_on word =
    if is_for_a_part word then false
    else if bytes_eq word (codes "-fsyntax-only") then false
    else if is_optimization word then true
    else if is_language word then true
    else is_standard word || is_general word

-- a word that is no stop and begins with no option that takes a value: one for the compiler, another option, the name of a file of
-- words, or else a file
abbrev pub other_class : List ℕ → WordClass
other_class word =
    if is_passed_on word then PassedOn
    else if begins word (codes "-") then Unmodelled
    else if begins word (codes "@") then Unmodelled
    else File

-- a word, where it isn't the value of the word before it
unfoldable pub class_of : List ℕ → WordClass
class_of word =
    if bytes_eq word (codes "-E") then StopAt Preprocess
    else if bytes_eq word (codes "-S") then StopAt Compile
    else if bytes_eq word (codes "-c") then StopAt Assemble
    else if begins word (codes "-o") then OutputOption
    else if begins word (codes "-I") then ValueOption IncludeFolder
    else if begins word (codes "-D") then ValueOption Define
    else if begins word (codes "-U") then ValueOption Undefine
    else if begins word (codes "-L") then ValueOption LibraryFolder
    else if begins word (codes "-l") then ValueOption LibraryName
    else other_class word
