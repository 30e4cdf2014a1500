-- What pieces that only read do, one after another.
use Rattle.std.proofs.Common.{◌≡◌, ℕ, List, sym, ap, subst, ◌∙◌}
use Rattle.object_name.specs.Name.{ObjectName}
use Rattle.thunk_codec.specs.declared.reference.Ref.{Ref}
use Rattle.thunk_codec.specs.declared.job.Job.{Job}
use Rattle.thunk_codec.specs.Thunk.{Parts}
use Rattle.thunk_codec.specs.Job.{ref_name}
use Rattle.thunk_codec.specs.Reading.{thunk_of}
use Rattle.blob_store.specs.Keeping.{Kept}
use Rattle.blob_store.specs.Store.{Store}
use Rattle.need_eval.specs.declared.fault.Refusal.TheVariants.{BadThunk}
use Rattle.need_eval.specs.declared.fault.EvalFault.{EvalFault}
use Rattle.need_eval.specs.declared.fault.EvalFault.TheVariants as faults
use Rattle.need_eval.specs.Eval.{State, Stop, Refused, Ended, Got, Eval, go_on, ◌>>=◌, give, need, each}
use Rattle.need_eval.specs.Evaluation.{object, thunk_at, input_object, job_of}
use Rattle.need_eval.specs.WritePrefix.{StopsWith}
use Rattle.need_eval.specs.StepContracts.{StopsReading, StopsUnwritten, kept_in}

-- what follows a stop doesn't matter
pub StopsUnwritten-go_on : {A B : Type 0} (f : A → Eval B) (why : Stop) (e : Ended A) (at : Kept) → StopsUnwritten why e at → StopsUnwritten why (go_on e f) at
StopsUnwritten-go_on f why e at h = record { last = h.last; stopped = ap (λ e. go_on e f) h.stopped; store = h.store; list = h.list }

pub StopsWith-go_on : {A B : Type 0} (f : A → Eval B) (why : Stop) (e : Ended A) (now : Store) → StopsWith why e now → StopsWith why (go_on e f) now
StopsWith-go_on f why e now h = record { last = h.last; stopped = ap (λ e. go_on e f) h.stopped; store = h.store }

pub StopsReading-go_on : {A B : Type 0} (f : A → Eval B) (e : Ended A) (at : Kept) (fault : EvalFault) → StopsReading e at fault → StopsReading (go_on e f) at fault
StopsReading-go_on f e at (faults.Refused refusal) h = StopsUnwritten-go_on f _ e at h
StopsReading-go_on f e at (faults.Clash name found fresh) h = h
StopsReading-go_on f e at faults.StoreFailed h = h
StopsReading-go_on f e at faults.RunFailed h = h
StopsReading-go_on f e at faults.Memory h = h

-- there is no thunk where its object can't be read
pub thunk_at_stops : (name : ObjectName) (s : State) (fault : EvalFault) → StopsReading (object name s) (kept_in s) fault → StopsReading (thunk_at name s) (kept_in s) fault
thunk_at_stops name s fault h = StopsReading-go_on (λ bytes. need (thunk_of bytes) (Refused (BadThunk name))) (object name s) (kept_in s) fault h

-- an input
pub input_object_stops : (input : List ℕ × Ref) (s : State) (fault : EvalFault) → StopsReading (object (ref_name input.1) s) (kept_in s) fault → StopsReading (input_object input s) (kept_in s) fault
input_object_stops input s fault h = StopsReading-go_on (λ bytes. give (input.0, bytes)) (object (ref_name input.1) s) (kept_in s) fault h

pub input_object_gives : (input : List ℕ × Ref) (s : State) (path bytes : List ℕ) → path ≡ input.0 → object (ref_name input.1) s ≡ Got bytes s → input_object input s ≡ Got (path, bytes) s
input_object_gives input s path bytes same h = ap (λ e. go_on e (λ bytes. give (input.0, bytes))) h ∙ ap (λ path. Got (path, bytes) s) (sym same)

-- the job by its inputs
abbrev job_with : Parts → List ℕ → List (List ℕ × List ℕ) → Job
job_with t function inputs = record { function = function; args = t.args; envs = t.envs; inputs = inputs; outputs = t.outputs }

abbrev with_inputs : Parts → List ℕ → Eval Job
with_inputs t function = each input_object t.inputs >>= λ inputs. give (job_with t function inputs)

pub job_of-function : (t : Parts) (s : State) (fault : EvalFault) → StopsReading (object (ref_name t.function) s) (kept_in s) fault → StopsReading (job_of t s) (kept_in s) fault
job_of-function t s fault h = StopsReading-go_on (with_inputs t) (object (ref_name t.function) s) (kept_in s) fault h

pub job_of-inputs : (t : Parts) (s : State) (function : List ℕ) (fault : EvalFault) → object (ref_name t.function) s ≡ Got function s → StopsReading (each input_object t.inputs s) (kept_in s) fault → StopsReading (job_of t s) (kept_in s) fault
job_of-inputs t s function fault one h =
    subst (λ (e : Ended Job). StopsReading e (kept_in s) fault) (sym (ap (λ e. go_on e (with_inputs t)) one))
    (StopsReading-go_on (λ inputs. give (job_with t function inputs)) (each input_object t.inputs s) (kept_in s) fault h)

pub job_of-gives : (t : Parts) (s : State) (job : Job) → object (ref_name t.function) s ≡ Got job.function s → each input_object t.inputs s ≡ Got job.inputs s → job.args ≡ t.args → job.envs ≡ t.envs → job.outputs ≡ t.outputs → job_of t s ≡ Got job s
job_of-gives t s job one all args envs outputs =
    ap (λ e. go_on e (with_inputs t)) one
    ∙ ap (λ e. go_on e (λ inputs. give (job_with t job.function inputs))) all
    ∙ λ i. Got (record { function = job.function; args = sym args i; envs = sym envs i; inputs = job.inputs; outputs = sym outputs i }) s
