-- The units of a session, one of which is taken and put back.
use Rattle.std.proofs.Common.{◌≡◌, ◌≢◌, ◌⊎◌, ◌<◌, ℕ, zero, suc, List, [], ◌∷◌, ◌++◌}
use Rattle.std.proofs.Common.{Option, Some, None, option_map, length, get_or, set, inl, inr, refl, sym, ap, ◌∙◌, subst, get_or-set_same, get_or-set_other, length-set}
use Rattle.std.proofs.lemmas.Bool.{cases_eq}
use Rattle.std.proofs.lemmas.List.{append-nil, get_or_default}
use Rattle.inorder.specs.declared.history.Entry.{Entry}
use Rattle.instructions.specs.Histories.{StartsWith}
use Rattle.inorder.specs.OneHistory.{Adds}
use Rattle.session.specs.declared.units.Claimed.{Claimed}
use Rattle.session.specs.declared.units.Claimed.TheVariants as claimed
use Rattle.session.specs.declared.units.UnitJob.{UnitJob}
use Rattle.session.specs.Replies.{HoldsWhatIs}
use Rattle.session.specs.Workers.{AreAtWork, AreWorkers, HasNone, HasUnit, IsAtWork, HoldsJob, IsWorker, StaySeen, UnitHasSeen}
use Rattle.session.specs.Workers.{claim_of, held_job, job_at, job_from, job_in, seen_at, seen_by_unit, station_held, worker_at}
use Rattle.instructions.proofs.Histories.{starts_same}
use Rattle.session.proofs.Jobs.{job_later}
use Rattle.station.specs.declared.answers.Claim.{Claim}
use Rattle.station.specs.declared.job.Job.{Job}
use Rattle.station.specs.Laws.{JobsStaySeen}
use Rattle.station.specs.Seats.{Caller, IsSameSeat, TheCore}

pub at_place : (units : List (Option UnitJob)) (at : ℕ) (x : Option UnitJob) → at < length units → x ≡ get_or units at x → worker_at units at ≡ x
at_place units at x within is = get_or_default units at None x within ∙ sym is

pub job_of_taken : (units : List (Option UnitJob)) (at : ℕ) (x : Option UnitJob) → worker_at units at ≡ x → job_at units at ≡ job_in x
job_of_taken units at x is = ap job_in is

pub are_set : (core : TheCore) (units : List (Option UnitJob)) (at : ℕ) (v : Option UnitJob) → at < length units → AreWorkers core units →
    ((w : UnitJob) → v ≡ Some w → IsWorker core w) → AreWorkers core (set units at v)
are_set core units at v within are is place w here = go (cases_eq place at)
  where
    go : (place ≡ at) ⊎ (place ≢ at) → IsWorker core w
    go (inl e) = is w (sym (ap (λ k. get_or (set units at v) k None) e ∙ get_or-set_same units at v None within) ∙ here)
    go (inr ne) = are place w (sym (get_or-set_other units at place v None ne) ∙ here)

none_is_some : (core : TheCore) (w : UnitJob) → ◌≡◌ {A = Option UnitJob} None (Some w) → IsWorker core w
none_is_some core w e = cc

no_job : (core : TheCore) (seat : Caller) (job : Job) → ◌≡◌ {A = Option Job} None (Some job) → HoldsJob core seat job
no_job core seat job e = cc

-- Who is of a core and holds nothing works
pub idle_works : (core : TheCore) (seat : Caller) → seat.core ≡ core → IsWorker core (record { seat = seat; job = None })
idle_works core seat same = record { core_is = same; holds = no_job core seat }

-- where no unit is made, each that is made works
pub none_works : (core : TheCore) (units : List (Option UnitJob)) → HasNone units → AreWorkers core units
none_works core units none place w here = none_is_some core w (sym (none place) ∙ here)

-- who is of a core holds its job there
pub at_work : (core : TheCore) (w : UnitJob) → IsWorker core w → IsAtWork w
at_work core w is job e = subst (λ (k : TheCore). HoldsJob k w.seat job) (sym is.core_is) (is.holds job e)

pub all_at_work : (core : TheCore) (units : List (Option UnitJob)) → AreWorkers core units → AreAtWork units
all_at_work core units are place w here = at_work core w (are place w here)

its_own : (core : TheCore) (v w : UnitJob) → IsWorker core v → ◌≡◌ {A = Option UnitJob} (Some v) (Some w) → IsWorker core w
its_own core v w is e = let same : v ≡ w = cc in subst (λ (u : UnitJob). IsWorker core u) same is

still_within : (units : List (Option UnitJob)) (at : ℕ) (v : Option UnitJob) → at < length units → at < length (set units at v)
still_within units at v within = rw length-set within

module _ (units taken : List (Option UnitJob)) (at : ℕ) (w : UnitJob) (within : at < length units) (is : taken ≡ set units at None) where
  pub put_back : (core : TheCore) → AreWorkers core units → IsWorker core w → AreWorkers core (set taken at (Some w))
  put_back core are own = subst (λ (xs : List (Option UnitJob)). AreWorkers core (set xs at (Some w))) (sym is)
      (are_set core (set units at None) at (Some w) (still_within units at None within) (are_set core units at None within are (none_is_some core)) (λ v e. its_own core w v own e))

  here : worker_at (set taken at (Some w)) at ≡ Some w
  here = subst (λ (xs : List (Option UnitJob)). worker_at (set xs at (Some w)) at ≡ Some w) (sym is) (get_or-set_same (set units at None) at (Some w) None (still_within units at None within))

  there : (k : ℕ) → k ≢ at → worker_at (set taken at (Some w)) k ≡ worker_at units k
  there k ne = get_or-set_other taken at k (Some w) None ne ∙ (ap (λ xs. get_or xs k None) is ∙ get_or-set_other units at k None None ne)

  pub has_unit : (by : ℕ) (job : Option Job) → w.seat.by ≡ by → w.job ≡ job → ((v : UnitJob) → worker_at units at ≡ Some v → v.seat.by ≡ by) → HasUnit units (set taken at (Some w)) at by job
  has_unit by job by_is job_is number = record { worker = w; is = here; by_is = by_is; job_is = job_is; number = number; others = there }

  -- It is put back with the same job, and has seen more
  pub stay_seen : StartsWith w.seat.seen (seen_at units at) → w.job ≡ job_at units at → StaySeen units (set taken at (Some w))
  stay_seen more job = record { keeps = λ k. keep k (cases_eq k at); jobs = λ k. job_is k (cases_eq k at) }
    where
      keep : (k : ℕ) → (k ≡ at) ⊎ (k ≢ at) → StartsWith (seen_at (set taken at (Some w)) k) (seen_at units k)
      keep k (inl e) = subst (λ n. StartsWith (seen_at (set taken at (Some w)) n) (seen_at units n)) (sym e)
          (subst (λ (x : Option UnitJob). StartsWith (seen_by_unit x) (seen_at units at)) (sym here) more)
      keep k (inr ne) = subst (λ (x : Option UnitJob). StartsWith (seen_by_unit x) (seen_at units k)) (sym (there k ne)) (starts_same (seen_at units k))

      job_is : (k : ℕ) → (k ≡ at) ⊎ (k ≢ at) → job_at (set taken at (Some w)) k ≡ job_at units k
      job_is k (inl e) = ap (λ n. job_at (set taken at (Some w)) n) e ∙ (ap job_in here ∙ (job ∙ ap (λ n. job_at units n) (sym e)))
      job_is k (inr ne) = ap job_in (there k ne)

  pub has_told : (old new : List Entry) → StaySeen units (set taken at (Some w)) → StartsWith w.seat.seen old → StartsWith new w.seat.seen →
      UnitHasSeen units (set taken at (Some w)) at old new
  has_told old new stays learns tells = record {
    units = stays;
    learns = subst (λ (x : Option UnitJob). StartsWith (seen_by_unit x) old) (sym here) learns;
    tells = subst (λ (x : Option UnitJob). StartsWith new (seen_by_unit x)) (sym here) tells;
  }

-- the station of a job that is held
pub held_is : (units : List (Option UnitJob)) (at station : ℕ) (job : Job) → job_at units at ≡ Some job → station_held units at ≡ Some station → job.station ≡ station
held_is units at station job held is =
    let both : ◌≡◌ {A = Option ℕ} (Some job.station) (Some station) = sym (ap (option_map (λ (j : Job). j.station)) held) ∙ is in
    cc

-- who is at a station holds a job
pub holds_one : (units : List (Option UnitJob)) (at station : ℕ) → job_at units at ≡ None → station_held units at ≡ Some station → ⊥
holds_one units at station none is =
    let both : ◌≡◌ {A = Option ℕ} None (Some station) = sym (ap (option_map (λ (j : Job). j.station)) none) ∙ is in
    cc

-- where a unit was taken from nobody is
pub free_now : (units taken : List (Option UnitJob)) (at : ℕ) → at < length units → taken ≡ set units at None → worker_at taken at ≡ None
free_now units taken at within is = ap (λ xs. get_or xs at None) is ∙ get_or-set_same units at None None within

-- Who is taken has seen what the one there had seen
pub taken_seen : (units : List (Option UnitJob)) (at : ℕ) (w : UnitJob) → ((v : UnitJob) → worker_at units at ≡ Some v → w ≡ v) → StartsWith w.seat.seen (seen_at units at)
taken_seen units at w same = go (worker_at units at) same
  where
    go : (x : Option UnitJob) → ((v : UnitJob) → x ≡ Some v → w ≡ v) → StartsWith w.seat.seen (seen_by_unit x)
    go None f = record { more = w.seat.seen; is = sym (append-nil w.seat.seen) }
    go (Some v) f = subst (λ (u : UnitJob). StartsWith w.seat.seen u.seat.seen) (f v refl) (starts_same w.seat.seen)

-- A unit that has met still holds its job
pub still_works : (core : TheCore) (stay : JobsStaySeen) (w : UnitJob) (seat : Caller) → IsWorker core w → IsSameSeat w.seat seat → Adds core.program core.sizes w.seat.by w.seat.seen seat.seen [] →
    IsWorker core (record { seat = seat; job = w.job })
still_works core stay w seat is same adds = record {
  core_is = same.core ∙ is.core_is;
  holds = λ job e. job_later core stay w.seat seat job (is.holds job e) same.by adds;
}

-- The job of a claim is held
holds_by : (core : TheCore) (seat : Caller) (answer : Claimed) → HoldsWhatIs core seat (claim_of answer) → (job : Job) → job_from answer ≡ Some job → HoldsJob core seat job
holds_by core seat (claimed.Job h) holds job e = let same : held_job h ≡ job = cc in subst (λ (j : Job). HoldsJob core seat j) same holds
holds_by core seat claimed.NotOpen holds job e = absurd (cc)
holds_by core seat (claimed.Waiting tag k) holds job e = absurd (cc)
holds_by core seat (claimed.Moved tag) holds job e = absurd (cc)

pub claimed_holds : (core : TheCore) (seat : Caller) (answer : Claimed) (claim : Claim) (job : Option Job) →
    claim_of answer ≡ claim → HoldsWhatIs core seat claim → job ≡ job_from answer → (held : Job) → job ≡ Some held → HoldsJob core seat held
claimed_holds core seat answer claim job e holds from held is = holds_by core seat answer (subst (λ (c : Claim). HoldsWhatIs core seat c) (sym e) holds) held (sym from ∙ is)

-- One more that was not made
pub push_none : (xs : List (Option UnitJob)) (at : ℕ) → get_or xs at None ≡ None → get_or (xs ++ None ∷ []) at None ≡ None
push_none [] zero e = refl
push_none [] (suc k) e = refl
push_none (x ∷ xs) zero e = e
push_none (x ∷ xs) (suc k) e = push_none xs k e
