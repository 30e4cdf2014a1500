-- How the queue changes where a file is visited or taken.
use Rattle.std.proofs.Common.{◌≡◌, ◌≤◌, ◌<◌, ◌+◌, ℕ, suc, List, [], ◌∷◌, ◌++◌, Bool, true, false, Option, Some, None, Result, Ok, Err, IsTrue, length, take, drop, get_or, ◌-◌, refl, sym, ap, subst, ◌∙◌, arith, inl, inr}
use Rattle.std.specs.Prelude.{◌⊎◌, nat_lt, nat_le, bytes_eq, unwrap_or, if◌then◌else◌, IsErr, IsErrAnd, OnOk}
use Rattle.std.specs.List.{list_any}
use Rattle.std.specs.Option.{is_some, option_to_list}
use Rattle.std.proofs.lemmas.Bool.{false≢true, le-ltb, lt-ltb, leb-true}
use Rattle.std.proofs.lemmas.List.{length_push, length-map, length-drop, map-append, drop-append-le, drop_more, take-append-drop}
use Rattle.std.proofs.lemmas.List.Folds.{list_any-append}
use Rattle.object_name.specs.Name.{max_size}
use Rattle.thunk_codec.proofs.PublicLaws.{bytes_eq-self}
use Rattle.thunk_codec.specs.Files.{Files}
use Rattle.file_tree.specs.Files.{file_read}
use Rattle.file_tree.specs.declared.tree.FileRead.{FileRead}
use Rattle.file_tree.specs.declared.tree.FileRead.TheVariants as reads
use Rattle.include_scan.specs.declared.fault.ScanFault.{ScanFault}
use Rattle.include_scan.specs.declared.fault.ScanFault.TheVariants.{Refused, TooMany, Failed, Memory}
use Rattle.include_scan.specs.declared.found.Found.TheVariants as founds
use Rattle.include_scan.specs.declared.queue.Queue.{Queue}
use Rattle.text_lines.specs.Among.{is_among}
use Rattle.include_scan.specs.Scanned.{bytes_at, inputs_of}
use Rattle.include_scan.specs.Scanning.{Visiting, max_files, refusal_of, refusal_of_read, unless_refused, visit_file, visit_found}
use Rattle.include_scan.specs.Queue.{NoneRefused, Waits, Leaves, Judges, IsFound, IsNext}
use Rattle.include_scan.proofs.VisitedGrow.{on_bool, or_first, or_second, among_cases, among_one}

-- a fault is passed on
pub leaves_fault : (wanted : Visiting) (visited : List (List ℕ)) (fault : ScanFault) (result : Result (Unit {0}) ScanFault) → IsErr result × IsErrAnd result (λ other. other ≡ fault)
    → Leaves wanted visited (Err fault) → Leaves wanted visited result
leaves_fault wanted visited fault (Ok _) is leaves = absurd is.1
leaves_fault wanted visited fault (Err other) is leaves = subst (λ f. Leaves wanted visited (Err f)) (sym is.1) leaves

pub no_more : (P : Type 0) (result : Result (Unit {0}) ScanFault) (fault : ScanFault) → IsErr result × IsErrAnd result (λ other. other ≡ fault) → OnOk result P
no_more P (Ok _) fault is = absurd is.1
no_more P (Err other) fault is = tt

-- the fault of a part is that of the whole
pub leaves_on : (wanted whole : Visiting) → ((fault : ScanFault) → wanted ≡ Err fault → whole ≡ Err fault) → (fault : ScanFault) (visited now : List (List ℕ))
    → Leaves wanted visited (Err fault) → Leaves whole now (Err fault)
leaves_on wanted whole on (Refused refusal) visited now leaves = on (Refused refusal) leaves
leaves_on wanted whole on TooMany visited now leaves = on TooMany leaves
leaves_on wanted whole on Failed visited now leaves = tt
leaves_on wanted whole on Memory visited now leaves = tt

module _ (files : Files) (path : List ℕ) (visited : List (List ℕ)) where
  -- what visiting a file gives by whether it was visited and whether there is room
  abbrev by_tests : Bool → Bool → Visiting
  by_tests among room = if among then Ok visited else if room then unless_refused (refusal_of path (files path)) (visited ++ path ∷ []) else Err TooMany

  visit_by_tests : visit_file files path visited ≡ by_tests (is_among visited path) (nat_lt (length visited) max_files)
  unfolding visit_file
  visit_by_tests = refl

  -- a file that was visited stays
  pub visited_before : is_among visited path ≡ true → visit_file files path visited ≡ Ok visited
  visited_before among = visit_by_tests ∙ ap (λ test. by_tests test (nat_lt (length visited) max_files)) among

  module _ (fresh : is_among visited path ≡ false) where
    -- there is no room
    pub visited_full : max_files ≤ length visited → visit_file files path visited ≡ Err TooMany
    visited_full full = visit_by_tests ∙ (ap (λ test. by_tests test (nat_lt (length visited) max_files)) fresh ∙ ap (by_tests false) (le-ltb (length visited) max_files full))

    visited_fresh : length visited < max_files → visit_file files path visited ≡ unless_refused (refusal_of path (files path)) (visited ++ path ∷ [])
    visited_fresh room = visit_by_tests ∙ (ap (λ test. by_tests test (nat_lt (length visited) max_files)) fresh ∙ ap (by_tests false) (lt-ltb (length visited) max_files room))

    module _ (room : length visited < max_files) (read : FileRead) (is : read ≡ file_read (files path)) where
      -- it is refused
      pub visited_refused : (fault : ScanFault) → Judges path read (Err fault) → Leaves (visit_file files path visited) visited (Err fault)
      visited_refused (Refused refusal) judges =
          visited_fresh room ∙ ap (λ r. unless_refused r (visited ++ path ∷ [])) (ap (refusal_of_read path) (sym is) ∙ judges)
      visited_refused TooMany judges = absurd judges
      visited_refused Failed judges = absurd judges
      visited_refused Memory judges = tt

      fine_now : (bytes : List ℕ) → Judges path read (Ok bytes) → refusal_of path (files path) ≡ None
      fine_now bytes judges = ap (refusal_of_read path) (sym is) ∙ judges.0

      -- it is one more
      pub visited_one : (bytes : List ℕ) → Judges path read (Ok bytes) → visit_file files path visited ≡ Ok (visited ++ path ∷ [])
      visited_one bytes judges = visited_fresh room ∙ ap (λ r. unless_refused r (visited ++ path ∷ [])) (fine_now bytes judges)

-- a file that was visited before is found
pub found_before : (files : Files) (visited : List (List ℕ)) (wanted : Option (List ℕ)) → IsFound files visited wanted founds.Visited → visit_found files wanted visited ≡ Ok visited
found_before files visited wanted (path, (is, among)) = ap (λ w. visit_found files w visited) is ∙ visited_before files path visited among

-- the bytes that were read, if they were
abbrev read_bytes : FileRead → List ℕ
read_bytes reads.Absent = []
read_bytes (reads.Bytes bytes) = bytes
read_bytes reads.TooLong = []

-- whether bytes were read
abbrev is_bytes : FileRead → Bool
is_bytes reads.Absent = false
is_bytes (reads.Bytes bytes) = true
is_bytes reads.TooLong = false

-- the bytes that were read are those of the file
bytes_read : (file : Option (List ℕ)) (bytes : List ℕ) → reads.Bytes bytes ≡ file_read file → bytes ≡ unwrap_or file []
bytes_read None bytes is = ap read_bytes is
bytes_read (Some held) bytes is =
    on_bool (nat_le (length held) max_size) (λ test. reads.Bytes bytes ≡ (if test then reads.Bytes held else reads.TooLong) → bytes ≡ held)
    (λ _ same. ap read_bytes same) (λ _ same. absurd (false≢true (sym (ap is_bytes same)))) is

-- a file that isn't refused has no more bytes than an object may have
short : (path : List ℕ) (file : Option (List ℕ)) → refusal_of path file ≡ None → length (unwrap_or file []) ≤ max_size
short path None is = absurd (false≢true (sym (ap is_some is)))
short path (Some held) is =
    on_bool (nat_le (length held) max_size) (λ test. refusal_of_read path (if test then reads.Bytes held else reads.TooLong) ≡ None → length held ≤ max_size)
    (λ fits _. leb-true (length held) max_size fits) (λ _ same. absurd (false≢true (sym (ap is_some same)))) is

module _ (files : Files) (index : ℕ) (before after : Queue) (waits : Waits files index before) where
  -- a new file waits behind the others
  pub waits_more : (path : List ℕ) (read : FileRead) (bytes : List ℕ) → is_among before.visited.keys path ≡ false → read ≡ file_read (files path) → Judges path read (Ok bytes)
      → after.visited.keys ≡ (if list_any (bytes_eq path) before.visited.keys then before.visited.keys else before.visited.keys ++ path ∷ [])
      → after.waiting.items ≡ before.waiting.items ++ (path, bytes) ∷ [] → Waits files index after
  waits_more path read bytes fresh is judges keys_are items_are =
      let keys : List (List ℕ) = before.visited.keys in
      let all : after.visited.keys ≡ keys ++ path ∷ [] = keys_are ∙ ap (λ test. if test then keys else keys ++ path ∷ []) fresh in
      let held : bytes ≡ bytes_at files path = bytes_read (files path) bytes (sym judges.1 ∙ is) in
      let none : refusal_of path (files path) ≡ None = ap (refusal_of_read path) (sym is) ∙ judges.0 in
      record {
        within = subst (λ paths. index ≤ length paths) (sym all) (let long = length_push keys path in let within = waits.within in omega (arith, long, within));
        waiting = items_are ∙ (ap (λ items. items ++ (path, bytes) ∷ []) waits.waiting
            ∙ (ap (λ b. inputs_of files (drop index keys) ++ (path, b) ∷ []) held
            ∙ (sym (map-append (λ path. (path, bytes_at files path)) (drop index keys) (path ∷ []))
            ∙ ap (inputs_of files) (sym (drop-append-le index keys (path ∷ []) waits.within) ∙ ap (drop index) (sym all)))));
        fine = λ other among. by_parts none other (among_cases keys (path ∷ []) other (subst (λ paths. IsTrue (is_among paths other)) all among));
      } where
        by_parts : refusal_of path (files path) ≡ None → (other : List ℕ) → IsTrue (is_among before.visited.keys other) ⊎ IsTrue (is_among (path ∷ []) other) → refusal_of other (files other) ≡ None
        by_parts none other (inl earlier) = waits.fine other earlier
        by_parts none other (inr last) = subst (λ p. refusal_of p (files p) ≡ None) (sym (among_one path other last)) none

  -- the first of some files that wait
  record First (keys : List (List ℕ)) (file : List ℕ × List ℕ) (items : List (List ℕ × List ℕ)) : Type 0 where
    pub rest : List (List ℕ)
    pub keys_are : keys ≡ file.0 ∷ rest
    pub bytes_are : file.1 ≡ bytes_at files file.0
    pub others : items ≡ inputs_of files rest

  first_waits : (keys : List (List ℕ)) (file : List ℕ × List ℕ) (items : List (List ℕ × List ℕ)) → file ∷ items ≡ inputs_of files keys → First keys file items
  first_waits [] file items is = absurd (let none : length (file ∷ items) ≡ 0 = ap length is in omega (arith, none))
  first_waits (first ∷ rest) file items is =
      let head : file ≡ (first, bytes_at files first) = ap (λ l. get_or l 0 file) is in
      let name : file.0 ≡ first = ap (λ f. f.0) head in
      record {
        rest = rest;
        keys_are = ap (λ path. path ∷ rest) (sym name);
        bytes_are = ap (λ f. f.1) head ∙ ap (bytes_at files) (sym name);
        others = ap (drop 1) is;
      }

  is_last : before.waiting.items ≡ after.waiting.items → after.waiting.items ≡ drop 1 before.waiting.items → length before.visited.keys ≤ index
  is_last same rest =
      let count : length before.waiting.items ≡ length before.visited.keys - index = ap length waits.waiting ∙ (length-map (drop index before.visited.keys) (λ path. (path, bytes_at files path)) ∙ length-drop index before.visited.keys) in
      let less : length before.waiting.items ≡ length before.waiting.items - 1 = ap length (same ∙ rest) ∙ length-drop 1 before.waiting.items in
      omega (arith, count, less)

  first_is_taken : (file : List ℕ × List ℕ) → before.waiting.items ≡ file ∷ after.waiting.items → after.visited ≡ before.visited → IsNext files index before after (Some file)
  first_is_taken file items visited =
      let first : First (drop index before.visited.keys) file after.waiting.items = first_waits (drop index before.visited.keys) file after.waiting.items (sym items ∙ waits.waiting) in
      let long : length before.visited.keys - index ≡ suc (length first.rest) = sym (length-drop index before.visited.keys) ∙ ap length first.keys_are in
      let low : index < length before.visited.keys = omega (arith, long) in
      let next : first.rest ≡ drop (index + 1) before.visited.keys = ap (drop 1) (sym first.keys_are ∙ drop_more before.visited.keys index file.0 low) in
      let among : IsTrue (is_among before.visited.keys file.0) =
      subst (λ keys. IsTrue (is_among keys file.0)) (take-append-drop index before.visited.keys)
      (list_any-append (bytes_eq file.0) (take index before.visited.keys) (drop index before.visited.keys)
      ∙ or_second _ _ (ap (list_any (bytes_eq file.0)) first.keys_are ∙ or_first _ _ (bytes_eq-self file.0))) in (
        first.keys_are ∙ ap (λ rest. file.0 ∷ rest) next,
        (
          first.bytes_are,
          (
            subst (λ bytes. length bytes ≤ max_size) (sym first.bytes_are) (short file.0 (files file.0) (waits.fine file.0 among)),
            record {
              within = subst (λ visited. index + 1 ≤ length visited.keys) (sym visited) (omega (arith, low));
              waiting = first.others ∙ (ap (inputs_of files) next ∙ ap (λ visited. inputs_of files (drop (index + 1) visited.keys)) (sym visited));
              fine = subst (λ visited. NoneRefused files visited.keys) (sym visited) waits.fine;
            },
          ),
        ),
      )

  -- what is taken is the next file
  pub is_next : (result : Option (List ℕ × List ℕ)) → before.waiting.items ≡ option_to_list result ++ after.waiting.items → after.waiting.items ≡ drop 1 before.waiting.items
      → after.visited ≡ before.visited → IsNext files index before after result
  is_next None items rest visited = is_last items rest
  is_next (Some file) items rest visited = first_is_taken file items visited

-- nothing waits at first
pub none_waits : (files : Files) (queue : Queue) → queue.visited.keys ≡ [] → queue.waiting.items ≡ [] → Waits files 0 queue
none_waits files queue none empty = record {
  within = omega arith;
  waiting = empty ∙ ap (λ keys. inputs_of files (drop 0 keys)) (sym none);
  fine = λ path among. absurd (false≢true (sym (ap (λ keys. is_among keys path) none) ∙ among));
}
