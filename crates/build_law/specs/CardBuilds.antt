-- The law on builds, for the tools of cards.
use Rattle.std.specs.Prelude.{ℕ, List}
use Rattle.std.specs.List.{AllByRecursion}
use Rattle.blob_store.specs.Store.{Store}
use Rattle.file_tree.specs.Files.{Files}
use Rattle.sandbox_run.specs.Cards.{card_outcome}
use Rattle.build_plan.specs.declared.plan.Plan.{Plan}
use Rattle.build_plan.specs.Fitting.{IsFitPlan}
use Rattle.build_plan.specs.Symbolic.{Work}
use Rattle.build_script.specs.AtOnce.{Ran}
use Rattle.build_law.specs.Agreement.{Builds, Forces}
use Rattle.build_law.specs.Suiting.{GivesUntaken}
use Rattle.build_script.specs.WholeTree.{cpp_whole, ScansForCpp}

-- a plan suits the cards
pub record SuitsCards (plan : Plan) : Type 0 where
  pub fit : IsFitPlan plan
  pub untaken : AllByRecursion (GivesUntaken plan.steps) plan.steps
  pub scans : AllByRecursion ScansForCpp plan.steps

-- inferring a build and forcing all placeholders that it leaves gives the tree that the build at once by the cards leaves
abbrev pub CardsAgree : Type 0
CardsAgree = (plans : List Plan) → AllByRecursion SuitsCards plans
    → (store : Store) (files : Files) (budget : ℕ) (work : Work) (ran : Ran) (paths : List (List ℕ))
    → Builds card_outcome cpp_whole plans store files budget work ran paths → Forces card_outcome budget work ran paths
