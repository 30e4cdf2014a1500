use Rattle.std.proofs.Common.{◌≡◌, List, ℕ, ◌+◌, ◌%◌, IfOk, arith, subst, Option}
use Rattle.tool_bin.specs.SymbolTable.{first_offset}
use Rattle.tool_bin.proofs.TableByCappedOffsets.{table_over, table_within}
use Rattle.tool_bin.proofs.symbol_table.table_of.Goals as goal

pub returns-in_default : goal.returns-in_default
returns-in_default c =
    table_over c.args.members.now c.in_ok-offsets.offsets c.in_ok-offsets.names c.len.result c.len-2.result
    c.in_ok-offsets.ensures.offsets c.in_ok-offsets.ensures.names c.len.ensures c.len-2.ensures c.in_default.ensures

pub returns : goal.returns
returns c =
    let size = c.in-Some.size in
    subst (λ (v : Option (List ℕ)). IfOk c.table_with.result (λ table. table ≡ v))
    (table_within c.args.members.now c.in_ok-offsets.offsets c.as_slice.result.now c.in_ok-offsets.names c.len.result c.len-2.result size (68 + size + size % 2)
    c.in_ok-offsets.ensures.offsets c.in_ok-offsets.ensures.names c.len.ensures c.len-2.ensures c.in-Some.ensures (let e : 68 + size + size % 2 ≡ first_offset size = omega arith in e) c.as_slice.ensures)
    c.table_with.ensures
