use Rattle.std.proofs.Common.{arith}
use Rattle.model_binutils.specs.PlanOf.{member_inputs}
use Rattle.model_binutils.proofs.FilesMade.{member_made, members_made}
use Rattle.model_binutils.proofs.insertion.member_inputs.Goals as goal

pub members-preserved : goal.members-preserved
members-preserved c =
    member_made c.members.inputs c.push.new.self c.len.result c.members.rest.now c.path-item.result c.in_ok-input.input c.in_ok-file.file (member_inputs 0 c.args.members.now) (omega arith) c.path-item.is
    c.members.invariant c.in_ok-push.ensures.ok c.len.ensures c.in_ok-input.ensures c.in_ok-file.ensures

pub returns : goal.returns
returns c = members_made c.members.inputs c.members.rest.now (member_inputs 0 c.args.members.now) (omega arith) c.members.invariant
