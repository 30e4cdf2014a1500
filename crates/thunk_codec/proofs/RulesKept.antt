-- The rules of thunks, one by one.
use Rattle.std.proofs.Common.{◌≡◌, ◌≤◌, true, leb, length, map}
use Rattle.std.specs.List.{list_all}
use Rattle.std.proofs.lemmas.Bool.{and_parts, and_from, leb-true}
use Rattle.thunk_codec.specs.Path.{is_path}
use Rattle.thunk_codec.specs.Thunk.{Parts, keeps_numbers, keeps_bytes, keeps_orders, keeps_paths, keeps_rules}

-- the rules, in the order in which the code looks at them
pub record Keeps (t : Parts) : Type 0 where
  pub numbers : keeps_numbers t ≡ true
  pub bytes : keeps_bytes t ≡ true
  pub orders : keeps_orders t ≡ true
  pub inputs : list_all is_path (map (λ input. input.0) t.inputs) ≡ true
  pub outputs : list_all is_path t.outputs ≡ true

pub rules_kept : (t : Parts) → keeps_rules t ≡ true → Keeps t
rules_kept t h =
    let a = and_parts (keeps_numbers t) _ h in
    let b = and_parts (keeps_bytes t) _ a.1 in
    let c = and_parts (keeps_orders t) (keeps_paths t) b.1 in
    let d = and_parts (list_all is_path (map (λ input. input.0) t.inputs)) (list_all is_path t.outputs) c.1 in
    record { numbers = a.0; bytes = b.0; orders = c.0; inputs = d.0; outputs = d.1 }

pub kept_rules : (t : Parts) → Keeps t → keeps_rules t ≡ true
kept_rules t h = and_from _ _ h.numbers (and_from _ _ h.bytes (and_from _ _ h.orders (and_from _ _ h.inputs h.outputs)))

pub few_inputs : (t : Parts) → keeps_rules t ≡ true → length t.inputs ≤ 4096
few_inputs t h = leb-true (length t.inputs) 4096 (and_parts (leb (length t.inputs) 4096) _ (rules_kept t h).numbers).0
