-- What is known of the links and of the report, by how forcing over links ended.
use Rattle.std.proofs.Common.{◌≡◌, ◌≢◌, ℕ, List, [], Result, Ok, Err, IsErr, IsErrAnd, Bool, true, false, refl, sym, ap, ◌∙◌, arith}
use Rattle.std.proofs.lemmas.Bool.{false≢true}
use Rattle.std.specs.List.{AllByRecursion, AllZip}
use Rattle.object_name.specs.Name.{ObjectName}
use Rattle.thunk_codec.specs.declared.job.Job.{Job}
use Rattle.need_eval.specs.declared.evaluating.Values.{Values}
use Rattle.force_pool.specs.declared.fault.ForceFault.{ForceFault}
use Rattle.force_pool.specs.declared.fault.ForceFault.TheVariants as pools
use Rattle.force_pool.specs.declared.report.Report.{Report}
use Rattle.force_pool.specs.Links.{Mark, CountsOn, DiffersBy, HasNumbers, IsBack, IsLost}
use Rattle.force_pool.specs.Report.{IsReport, LeavesOpenJob}
use Rattle.force_pool.proofs.CallsConclude.{unbegun-concludes}
use Rattle.gg_cli.specs.declared.fault.TopFault.{TopFault}
use Rattle.gg_cli.specs.declared.linked_fault.LinkedFault.{LinkedFault}
use Rattle.gg_cli.specs.declared.linked_fault.LinkedFault.TheVariants as linked
use Rattle.gg_cli.specs.LinkedSteps.{ConcludesAs, DiffersAt, KeepsLinks, NamesOver}

-- ---- which end it is

-- the ends that are told apart
abbrev is_lost : {T : Type 0} → Result T LinkedFault → Bool
is_lost (Err linked.LinksLost) = true
is_lost result = false

abbrev is_differs : {T : Type 0} → Result T LinkedFault → Bool
is_differs (Err (linked.Differs resolved first second)) = true
is_differs result = false

abbrev is_pool_memory : Result Values ForceFault → Bool
is_pool_memory (Err pools.Memory) = true
is_pool_memory end' = false

-- the end of the values where two outcomes differ
abbrev back_to : {T : Type 0} → Result T LinkedFault → Result Values ForceFault
back_to (Err (linked.Differs resolved first second)) = Err (pools.Differs resolved first second)
back_to result = Err pools.Memory

abbrev is_ok : {T : Type 0} → Result T LinkedFault → Bool
is_ok (Ok v) = true
is_ok (Err fault) = false

-- an end that is neither of the two, where the values' wasn't want of memory
plainly : {T : Type 0} (end' : Result Values ForceFault) (result : Result T LinkedFault) → is_pool_memory end' ≡ false → is_lost result ≡ false → is_differs result ≡ false → ConcludesAs end' result
plainly end' result no_memory no_lost no_differs = record {
  lost = λ is. absurd (false≢true (sym no_lost ∙ ap (λ (x : Result _ LinkedFault). is_lost x) is));
  memory = λ is. absurd (false≢true (sym no_memory ∙ ap (λ (x : Result Values ForceFault). is_pool_memory x) is));
  differs = λ resolved first second is. absurd (false≢true (sym no_differs ∙ ap (λ (x : Result _ LinkedFault). is_differs x) is));
}

-- ---- the end of the values is that of the whole

-- there are values
no_pool_memory : (end' : Result Values ForceFault) (names : List ObjectName) → NamesOver end' (Ok names) → is_pool_memory end' ≡ false
no_pool_memory (Ok values) names h = refl
no_pool_memory (Err fault) names h = absurd h

module _ {T : Type 0} where
  evaluation_concludes : (end' : Result Values ForceFault) (over : LinkedFault) → is_pool_memory end' ≡ false → (fault : _) → end' ≡ Err (pools.Eval fault) → NamesOver end' (Err over) → ConcludesAs {T = T} end' (Err over)
  evaluation_concludes end' (linked.Top top) no_memory fault is names = plainly end' (Err (linked.Top top)) no_memory refl refl
  evaluation_concludes end' (linked.Differs resolved first second) no_memory fault is names = absurd (rw is at names)
  evaluation_concludes end' linked.LinksLost no_memory fault is names = absurd (rw is at names)

  -- there are no values
  pub fault_concludes : (end' : Result Values ForceFault) (over : LinkedFault) → NamesOver end' (Err over) → ConcludesAs {T = T} end' (Err over)
  fault_concludes (Ok values) over names = absurd (false≢true (ap (λ (x : Result (List ObjectName) LinkedFault). is_ok x) names))
  fault_concludes (Err (pools.Eval fault)) over names = evaluation_concludes (Err (pools.Eval fault)) over refl fault refl names
  fault_concludes (Err (pools.Differs resolved first second)) over names = rw names (record {
    lost = λ is. absurd (false≢true (ap (λ (x : Result T LinkedFault). is_lost x) is));
    memory = λ is. absurd (false≢true (ap (λ (x : Result Values ForceFault). is_pool_memory x) is));
    differs = λ r f s is. ap (λ (x : Result T LinkedFault). back_to x) is;
  })
  fault_concludes (Err pools.LinksLost) over names = rw names (record {
    lost = λ is. refl;
    memory = λ is. absurd (false≢true (ap (λ (x : Result Values ForceFault). is_pool_memory x) is));
    differs = λ r f s is. absurd (false≢true (ap (λ (x : Result T LinkedFault). is_differs x) is));
  })
  fault_concludes (Err pools.Memory) over names = rw names (record {
    lost = λ is. absurd (false≢true (ap (λ (x : Result T LinkedFault). is_lost x) is));
    memory = λ is. refl;
    differs = λ r f s is. absurd (false≢true (ap (λ (x : Result T LinkedFault). is_differs x) is));
  })

  -- the values were handed out, or not all
  pub done_concludes : (end' : Result Values ForceFault) (names : List ObjectName) (v : T) → NamesOver end' (Ok names) → ConcludesAs {T = T} end' (Ok v)
  done_concludes end' names v h = plainly end' (Ok v) (no_pool_memory end' names h) refl refl

  pub handing_concludes : (end' : Result Values ForceFault) (names : List ObjectName) (fault : TopFault) → NamesOver end' (Ok names) → ConcludesAs {T = T} end' (Err (linked.Top fault))
  handing_concludes end' names fault h = plainly end' (Err (linked.Top fault)) (no_pool_memory end' names h) refl refl

-- an end that a `?` hands on
pub concludes-handed : {T : Type 0} (end' : Result Values ForceFault) (r : Result T LinkedFault) (fault : LinkedFault) → IsErr r × IsErrAnd r (λ d. d ≡ fault) → ConcludesAs {T = T} end' (Err fault) → ConcludesAs end' r
concludes-handed end' (Ok v) fault h concludes = absurd h.1
concludes-handed end' (Err d) fault h concludes = rw h.1 concludes

-- ---- the links

module _ {T : Type 0} (tells : Job → Type 0) (workers retries copies : ℕ) (given back : List Mark) (r : Report) where
  differs_at : (end' : Result Values ForceFault) (result : Result T LinkedFault) → ConcludesAs end' result → DiffersBy tells back end' → DiffersAt tells back result
  differs_at end' (Ok v) concludes d = tt
  differs_at end' (Err (linked.Top fault)) concludes d = tt
  differs_at end' (Err (linked.Differs resolved first second)) concludes d = rw (concludes.differs resolved first second refl) at d
  differs_at end' (Err linked.LinksLost) concludes d = tt

  -- what is known of the links where they were used
  pub used_keep : (end' : Result Values ForceFault) (result : Result T LinkedFault) → ConcludesAs end' result
      → IsReport workers retries copies r → AllZip IsBack given back → (end' ≢ Err pools.Memory → AllByRecursion CountsOn back → HasNumbers given back r)
      → (end' ≡ Err pools.LinksLost → AllZip (IsLost retries) given back) → (end' ≡ Err pools.LinksLost → LeavesOpenJob workers retries copies r) → DiffersBy tells back end'
      → KeepsLinks tells workers retries copies given back r result
  used_keep end' result concludes report links numbers lost open_job differs = record {
    report = report;
    links = links;
    numbers = λ other. numbers (λ is. other (concludes.memory is));
    lost = λ is. lost (concludes.lost is);
    open_job = λ is. open_job (concludes.lost is);
    differs = differs_at end' result concludes differs;
  }

  -- where they were not
  pub unused_keep : (fault : TopFault) → back ≡ given → r.starts ≡ 0 → r.replies ≡ 0 → r.losses ≡ 0 → r.history ≡ [] → (result : Result T LinkedFault) → result ≡ Err (linked.Top fault)
      → KeepsLinks tells workers retries copies given back r result
  unused_keep fault same starts replies losses history result is =
      let all = unbegun-concludes tells workers retries copies given r starts replies losses history in
      rw (same, is) (record {
        report = all.report;
        links = all.links;
        numbers = λ other below. record { sent = omega (arith, starts); starts = omega (arith, starts); losses = omega (arith, losses) };
        lost = λ is. absurd (false≢true (ap (λ (x : Result T LinkedFault). is_lost x) is));
        open_job = λ is. absurd (false≢true (ap (λ (x : Result T LinkedFault). is_lost x) is));
        differs = tt;
      })
