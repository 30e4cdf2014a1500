-- The build of the demonstration: functions of which each calls the one before it, in a library, and a program that prints the last.
use Rattle.std.specs.Prelude.{ℕ, zero, suc, ◌-◌, ◌==◌, List, [], ◌∷◌, ◌++◌, None, codes, decimal, if◌then◌else◌}
use Rattle.std.specs.FinMap as map
use Rattle.object_name.specs.Maps.{map_of}
use Rattle.blob_store.specs.Store.{Store}
use Rattle.file_tree.specs.Files.{Files}
use Rattle.file_tree.specs.Memory.{path_cmp}
use Rattle.file_tree.specs.declared.item.Item.{Item}
use Rattle.file_tree.specs.declared.item.Item.TheVariants.{File}

-- a text in a line
abbrev pub line : List ℕ → List ℕ
line text = text ++ 10 ∷ []

-- ---- the files

-- `u1.c` and so on, the path of a source by its number
abbrev pub source_path : ℕ → List ℕ
source_path number = codes "u" ++ (decimal number ++ codes ".c")

-- what a function gives: the first adds K to 1, and each other one adds K times its number to what the one before it gives
abbrev pub sum_text : ℕ → List ℕ
sum_text number = if number == 1 then codes "1 K +" else codes "f" ++ (decimal (number - 1) ++ (codes " " ++ (decimal number ++ codes " K * +")))

-- the source of the function of a number
abbrev pub source_text : ℕ → List ℕ
source_text number = line (codes "#include \"k.h\"") ++ line (codes "fn f" ++ (decimal number ++ (codes " : " ++ sum_text number)))

-- so many sources, by their paths
abbrev pub sources : ℕ → List (List ℕ × List ℕ)
sources zero = []
sources (suc count) = sources count ++ (source_path (suc count), source_text (suc count)) ∷ []

-- the file that says what K is: the number of functions
abbrev pub header_text : ℕ → List ℕ
header_text count = line (codes "#define K " ++ decimal count)

-- the source of the program
abbrev pub main_text : ℕ → List ℕ
main_text count = line (codes "fn main : f" ++ (decimal count ++ codes " print"))

-- all files, by their paths
abbrev pub named_files : ℕ → List (List ℕ × List ℕ)
named_files count = (codes "k.h", header_text count) ∷ (sources count ++ (codes "main.c", main_text count) ∷ [])

-- the tree of these files
abbrev pub demo_files : ℕ → Files
demo_files count = λ path. map.get (map_of {R = path_cmp} (named_files count)) path

-- ---- the script

-- the line that compiles a source
abbrev pub compile_line : ℕ → List ℕ
compile_line number = line (codes "gcc -c u" ++ (decimal number ++ (codes ".c -o u" ++ (decimal number ++ codes ".o"))))

-- the lines that compile so many sources
abbrev pub compile_lines : ℕ → List ℕ
compile_lines zero = []
compile_lines (suc count) = compile_lines count ++ compile_line (suc count)

-- a compiled source among the words of a line
abbrev pub object_word : ℕ → List ℕ
object_word number = codes " u" ++ (decimal number ++ codes ".o")

-- so many of them
abbrev pub object_words : ℕ → List ℕ
object_words zero = []
object_words (suc count) = object_words count ++ object_word (suc count)

-- each source is compiled, all go into a library, and the program is linked with that and stripped
abbrev pub demo_script : ℕ → List ℕ
demo_script count =
    compile_lines count ++ (line (codes "ar rcs libu.a" ++ object_words count) ++ (line (codes "gcc main.c -L. -lu -o prog") ++ line (codes "strip prog")))

-- ---- where it is done

-- nothing is stored yet
abbrev pub empty_store : Store
empty_store = record { objects = λ name. None; notes = λ name. None }

-- what is wanted in the end
abbrev pub program : Item
program = File (codes "prog")
