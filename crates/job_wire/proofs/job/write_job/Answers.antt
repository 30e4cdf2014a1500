use Rattle.job_wire.proofs.Jobs.{short_parts, job_written}
use Rattle.job_wire.proofs.job.write_job.Goals as goal

pub write_list-requires-clause-number : goal.write_list-requires-clause-number
write_list-requires-clause-number c = rw c.as_slice.ensures (short_parts c.args.job.now c.requires.size).args

pub write_list-requires-2-clause-number : goal.write_list-requires-2-clause-number
write_list-requires-2-clause-number c = rw c.as_slice-2.ensures (short_parts c.args.job.now c.requires.size).envs

pub write_list-requires-2-clause-size : goal.write_list-requires-2-clause-size
write_list-requires-2-clause-size c = rw c.as_slice-2.ensures (short_parts c.args.job.now c.requires.size).envs_size

pub write_list-requires-3-clause-size : goal.write_list-requires-3-clause-size
write_list-requires-3-clause-size c = rw c.as_slice-3.ensures (short_parts c.args.job.now c.requires.size).inputs_size

pub returns : goal.returns
returns c =
    job_written c.args.job.now c.args.out.now c.write.new.out c.write_list.new.out c.write_list-2.new.out c.write_list-3.new.out c.write_list-4.new.out c.in_ok-write.ensures
    (rw c.as_slice.ensures at c.in_ok-write_list.ensures) (rw c.as_slice-2.ensures at c.in_ok-write_list-2.ensures) (rw c.as_slice-3.ensures at c.in_ok-write_list-3.ensures) (rw c.as_slice-4.ensures at c.in_ok-write_list-4.ensures)

pub write_list-requires-clause-size : goal.write_list-requires-clause-size
write_list-requires-clause-size c = rw c.as_slice.ensures (short_parts c.args.job.now c.requires.size).args_size

pub write_list-requires-4-clause-size : goal.write_list-requires-4-clause-size
write_list-requires-4-clause-size c = rw c.as_slice-4.ensures (short_parts c.args.job.now c.requires.size).outputs_size
