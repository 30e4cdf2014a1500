use Rattle.std.proofs.Common.{sym, ◌∙◌}
use Rattle.build_plan.proofs.KnownPaths.{path_found, path_is_text}
use Rattle.build_plan.proofs.job_paths.known_path.Goals as goal

pub unreachable-requires : goal.unreachable-requires
unreachable-requires c = path_found c.args.text.now c.requires (sym (c.in_ok-path.ensures) ∙ c.in-None.is)

pub returns : goal.returns
returns c = path_is_text c.args.text.now c.in-Some.path c.requires (sym c.in-Some.is ∙ c.in_ok-path.ensures)
