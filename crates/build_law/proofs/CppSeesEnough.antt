-- The preprocessor gives with the scanned files alone what it gives with the whole tree.
use Rattle.std.proofs.Common.{List, [], ◌∷◌}
use Rattle.std.specs.List.{AllByRecursion}
use Rattle.sandbox_run.specs.Cards.{card_outcome}
use Rattle.sandbox_run.specs.CardsFit.{cards_fit}
use Rattle.build_plan.specs.declared.plan.Plan.{Plan}
use Rattle.build_plan.specs.declared.plan.Scanning.{Scanning}
use Rattle.build_plan.specs.declared.plan.Step.{Step}
use Rattle.build_plan.specs.declared.plan.Step.TheVariants.{Read, Take, Find, Run, Scan}
use Rattle.build_law.specs.CardBuilds.{CardsAgree, SuitsCards}
use Rattle.build_law.specs.Suiting.{SeesEnough, ScansEnough, Suits}
use Rattle.build_script.specs.WholeTree.{cpp_whole, IsCpp, ScansForCpp}
use Rattle.build_script.proofs.CppOverScanned.{cpp-same}
use Rattle.build_law.proofs.ForcingAgrees.{build-agrees}

-- so it sees enough
sees-enough : (s : Scanning) → IsCpp s → SeesEnough card_outcome cpp_whole s
sees-enough s cpp = record { source = cpp.source; same = λ files paths is. cpp-same files s cpp paths is }

steps-enough : (steps : List Step) → AllByRecursion ScansForCpp steps → AllByRecursion (ScansEnough card_outcome cpp_whole) steps
steps-enough [] h = tt
steps-enough (step ∷ steps) h = (by step h.0, steps-enough steps h.1)
  where
    by : (step : Step) → ScansForCpp step → ScansEnough card_outcome cpp_whole step
    by (Read path) h = h
    by (Take path) h = h
    by (Find missing places) h = h
    by (Run stage) h = h
    by (Scan s) h = sees-enough s h

-- and plans that suit the cards suit what the cards give
cards-suit : (plans : List Plan) → AllByRecursion SuitsCards plans → AllByRecursion (Suits card_outcome cpp_whole) plans
cards-suit [] h = tt
cards-suit (plan ∷ plans) h = (record { fit = h.0.fit; untaken = h.0.untaken; scans = steps-enough plan.steps h.0.scans }, cards-suit plans h.1)

-- the law, for the tools of cards
pub cards-agree : CardsAgree
cards-agree plans suit store files budget work ran paths builds = build-agrees card_outcome cards_fit cpp_whole plans (cards-suit plans suit) store files budget work ran paths builds
