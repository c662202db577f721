-- The way of an instruction through the core: it is let, claimed and finished by the first unit.
use Rattle.std.proofs.Common.{◌≡◌, ℕ, List, [], ◌∷◌, length, Some, None, sym, ap, ◌∙◌, subst, ⊎_elim, arith}
use Rattle.instructions.specs.Programs.{Program}
use Rattle.instructions.specs.declared.stop.Outcome.{Outcome}
use Rattle.inorder.specs.declared.history.Entry.{Entry}
use Rattle.inorder.specs.History.{IsUnit, front, own, unit_of}
use Rattle.instructions.specs.Histories.{StartsWith}
use Rattle.inorder.specs.OneHistory.{Adds}
use Rattle.inorder.specs.Tenants.{Tenant, kind_of, missing, missing_of}
use Rattle.inorder.specs.Unit.{Sizes, front_pc, next_station, next_tag, recent}
use Rattle.ruu_words.specs.Kinds.{IsTenant}
use Rattle.ruu_words.specs.Views.{IsSpare}
use Rattle.station.specs.declared.answers.Claim.{Claim}
use Rattle.station.specs.declared.answers.Claim.TheVariants.{Job as Claimed}
use Rattle.station.specs.declared.answers.Finish.{Finish}
use Rattle.station.specs.declared.job.Job.{Job}
use Rattle.station.specs.declared.answers.Tenant.{Tenant as NewTenant}
use Rattle.station.specs.Claiming.{ClaimAnswers, Holds}
use Rattle.station.specs.Finishing.{ClaimedAreInFlight, HasFinished, HasOutcome, IsInFlight, JobsAreFinished, JobsStayInFlight, OnlyUnits}
use Rattle.station.specs.Laws.{JobsStaySeen}
use Rattle.station.specs.Letting.{MayLetOut, let_of}
use Rattle.station.specs.Moments.{WasOnce}
use Rattle.station.specs.Quiet.{ClaimsGiveJobs, IsClaimable, IsLetAs, LetsAreOut}
use Rattle.station.specs.Seats.{Caller, IsSameSeat, TheCore}
use Rattle.station.specs.Writeback.{FinishAnswers, job_outcome}
use Rattle.client.specs.declared.seats.Seats.{Seats}
use Rattle.client.specs.ByHand.{AreAll, HaveHeard, KnowsUnits}
use Rattle.client.specs.Works.{HasBothValues, HasCome, unit_at}
use Rattle.client.proofs.Begins.{claim_begins, finish_begins}
use Rattle.client.proofs.Alone.{Stand, only_units, quiet, stand_on, stand_still}
use Rattle.client.proofs.Histories.{at_least, same_between}
use Rattle.instructions.proofs.Histories.{starts_on, starts_same}
use Rattle.inorder.proofs.Histories.{same_fronts}
use Rattle.client.proofs.ItsJob.{IsItsJob, its_fields}

-- What a tenant's let, its claim and its finish have answered

-- The front, as f, has let a tenant with both its values, and then all have met as m
pub record WasLet (core : TheCore) (s : Seats) (t : NewTenant) (f : Caller) (m : Seats) : Type 0 where
  pub all : AreAll core s
  pub knows : KnowsUnits s
  pub values : HasBothValues t
  pub may : MayLetOut core.program core.sizes (unit_at core s) t
  pub kept : IsSameSeat s.front f
  pub lets : Adds core.program core.sizes s.front.by s.front.seen f.seen (let_of t ∷ [])
  pub all_met : AreAll core m
  pub met : HaveHeard core (record s { front = f }) m

-- The first unit, as o, was answered so for its claim, and then all have met as n
pub record WasClaimed (core : TheCore) (s m : Seats) (o : Caller) (station : ℕ) (answer : Claim) (n : Seats) : Type 0 where
  pub same : IsSameSeat m.one o
  pub spare : o.spare ≡ m.one.spare
  pub at_station : station ≡ next_station core.sizes (recent (unit_at core s))
  pub reply : ClaimAnswers core.program core.sizes m.one.by m.one.seen o.seen station answer
  pub end : HaveHeard core (record m { one = o }) n

pub as_job : {core : TheCore} {s m n : Seats} {o : Caller} {station : ℕ} {answer : Claim} {j : Job} → WasClaimed core s m o station answer n → answer ≡ Claimed j →
    WasClaimed core s m o station (Claimed j) n
as_job {core} {s} {m} {n} {o} {station} d is = subst (λ a. WasClaimed core s m o station a n) is d

-- The first unit, as w, was answered so for its finish, and then all have met as z
pub record WasFinished (core : TheCore) (n : Seats) (w : Caller) (j : Job) (answer : Finish) (z : Seats) : Type 0 where
  pub same : IsSameSeat n.one w
  pub spare : w.spare ≡ n.one.spare
  pub reply : FinishAnswers core.program core.sizes n.one.by n.one.seen w.seen j answer
  pub last : HaveHeard core (record n { one = w }) z

module _ {core : TheCore} {s m : Seats} {t : NewTenant} {f : Caller} (l : WasLet core s t f m) where
  abbrev P : Program
  P = core.program

  abbrev C : Sizes
  C = core.sizes

  abbrev before : List Entry
  before = s.front.seen

  abbrev tag : ℕ
  tag = next_tag C (recent (unit_of P C before))

  abbrev pc : ℕ
  pc = front_pc (unit_of P C before).tenants

  -- the answer of a claim is the job of this tenant
  abbrev pub HasItsJob : Claim → Type 0
  HasItsJob = IsItsJob P t l.values tag pc

  heard : StartsWith m.one.seen before
  heard = starts_on before f.seen m.one.seen l.lets.begins (starts_on f.seen m.front.seen m.one.seen l.met.front.adds.begins l.met.of_front)

  module _ (n : Seats) (o : Caller) (z : Seats) (stand : Stand m z) (end : HaveHeard core (record n { one = o }) z) (on : StartsWith o.seen m.one.seen) where
    -- the front has let this tenant, and nothing else
    let_alone : Adds P C front before m.one.seen (let_of t ∷ [])
    let_alone =
        let adds : Adds P C front before f.seen (let_of t ∷ []) = subst (λ i. Adds P C i before f.seen (let_of t ∷ [])) l.all.front_by l.lets in
        let by : f.by ≡ front = l.kept.by ∙ l.all.front_by in
        let told : own front m.front.seen ≡ own front f.seen = subst (λ i. own i m.front.seen ≡ own i f.seen) by l.met.front.adds.mine in
        let last : own front z.front.seen ≡ own front m.front.seen = subst (λ i. own i z.front.seen ≡ own i m.front.seen) l.all_met.front_by stand.fronts in
        let same = ap (λ l. length l) last in
        let none : own front m.one.seen ≡ own front m.front.seen =
        same_between front m.front.seen m.one.seen z.front.seen l.met.of_front (starts_on m.one.seen o.seen z.front.seen on end.to_front) (omega arith) in
        record {
          begins = heard;
          legal = l.met.one.adds.legal;
          one_table = same_fronts P C m.one.seen f.seen l.met.one.adds.legal adds.legal (none ∙ told) ∙ adds.one_table;
          mine = none ∙
              (told ∙ adds.mine);
        }

    -- no unit has done anything since
    units_wait : (i : ℕ) → IsUnit i → own i m.one.seen ≡ own i before
    units_wait i unit = ⊎_elim
        (λ e. subst (λ k. own k m.one.seen ≡ own k before) (sym e) by_one)
        (λ rest. ⊎_elim
        (λ e. subst (λ k. own k m.one.seen ≡ own k before) (sym e) by_other)
        (λ spare. ⊎_elim
        (λ h. none z.one.seen end.one.adds.begins (end.no_more_of_one i (subst (λ k. IsSpare k i) (sym (stand.one_spare ∙ l.met.one.spare_is)) h)))
        (λ h. none z.other.seen end.to_other (end.no_more_of_other i (subst (λ k. IsSpare k i) (sym (stand.other_spare ∙ l.met.other.spare_is)) h)))
        spare)
        rest)
        (l.all.no_third i unit)
      where
        by_one : own s.one.by m.one.seen ≡ own s.one.by before
        by_one =
            let same = ap (λ l. length l) l.met.one.adds.mine in
            let few = at_least s.one.by s.one.seen before l.knows.one in
            same_between s.one.by before m.one.seen m.one.seen heard (starts_same m.one.seen) (omega arith)

        by_other : own s.other.by m.one.seen ≡ own s.other.by before
        by_other =
            let last : own s.other.by z.other.seen ≡ own s.other.by m.other.seen = subst (λ k. own k z.other.seen ≡ own k m.other.seen) l.met.other.by_is stand.others in
            let same = ap (λ l. length l) (last ∙ l.met.other.adds.mine) in
            let few = at_least s.other.by s.other.seen before l.knows.other in
            same_between s.other.by before m.one.seen z.other.seen heard (starts_on m.one.seen o.seen z.other.seen on end.to_other) (omega arith)

        none : (v : List Entry) → StartsWith v o.seen → own i v ≡ own i core.opening → own i m.one.seen ≡ own i before
        none v above e =
            let few = at_least i core.opening before l.all.front_opened in
            let same = ap (λ l. length l) e in
            same_between i before m.one.seen v heard (starts_on m.one.seen o.seen v on above) (omega arith)

  -- the claim is a job, with the fields of this tenant
  module _ {o : Caller} {station : ℕ} {answer : Claim} {z : Seats} (d : WasClaimed core s m o station answer z) where
    begins : StartsWith o.seen m.one.seen
    begins = claim_begins P C m.one.by m.one.seen o.seen station answer d.reply

    pub stand : Stand m z
    stand = stand_on core m m z o d.spare (stand_still m) d.end

    pub its_job : LetsAreOut → ClaimsGiveJobs → HasItsJob answer
    its_job lets_are_out claims_give_jobs =
        let out = lets_are_out P C before m.one.seen t l.may (let_alone m o z stand d.end begins) in
        let u : Tenant = out.tenant.tenant in
        let its : IsLetAs t pc u = out.tenant.fact in
        let first : u.first.value ≡ Some l.values.a = its.first_is l.values.a l.values.first in
        let second : u.second.value ≡ Some l.values.b = its.second_is l.values.b l.values.second in
        let ready : missing P u ≡ None = λ i. missing_of (kind_of P u) (first i) (second i) in
        let claimable : IsTenant (unit_of P C m.one.seen) out.p station tag (IsClaimable P) = record {
          tenant = u;
          is = out.tenant.is;
          new = out.tenant.new;
          station_is = out.tenant.station_is ∙ sym d.at_station;
          tag_is = out.tenant.tag_is;
          fact = record { is_open = out.opens (units_wait m o z stand d.end begins); ready = ready };
        } in
        let alone = quiet core (record s { front = f }) m m z o l.all_met l.met stand d.end m.one.seen o.seen (starts_same m.one.seen) begins (starts_same o.seen) in
        let j = claims_give_jobs P C m.one.by m.one.seen o.seen station tag out.p answer l.all_met.one_by claimable alone d.reply in
        record { job = j.job; is = j.is; fields = its_fields P t l.values tag pc u j.job out.tenant.tag_is its j.fields_are }

  -- and its outcome is written
  module _ {o : Caller} {station : ℕ} {j : Job} {n : Seats} (d : WasClaimed core s m o station (Claimed j) n) where
    pub still_holds : JobsStaySeen → Holds P C n.one.by n.one.seen j
    still_holds jobs_stay =
        let mine : Holds P C o.by o.seen j = subst (λ i. Holds P C i o.seen j) (sym d.same.by) d.reply.holds in
        subst (λ i. Holds P C i n.one.seen j) (sym d.end.one.by_is) (jobs_stay P C o.by o.seen n.one.seen j mine d.end.one.adds)

    module _ {w : Caller} {answer : Finish} {z : Seats} (e : WasFinished core n w j answer z) where
      written_at : StartsWith w.seen n.one.seen
      written_at = finish_begins P C n.one.by n.one.seen w.seen j answer e.reply

      only : (x y : List Entry) → StartsWith x m.one.seen → StartsWith y x → StartsWith w.seen y → OnlyUnits x y
      only x y from on to =
          let until : Stand m z = stand_on core m n z w e.spare (stand_on core m m n o d.spare (stand_still m) d.end) e.last in
          only_units core (record s { front = f }) m n z w l.all_met l.met until e.last x y from on to

      pub finishes : ClaimedAreInFlight → JobsStayInFlight → JobsAreFinished → JobsStaySeen → HasFinished P C w.seen j answer
      finishes in_flight stay finished jobs_stay =
          let a : StartsWith o.seen m.one.seen = d.reply.adds.begins in
          let b : StartsWith n.one.seen o.seen = d.end.one.adds.begins in
          let early : IsInFlight P C o.seen j =
          in_flight P C m.one.by m.one.seen o.seen station j (only m.one.seen o.seen (starts_same m.one.seen) a (starts_on o.seen n.one.seen w.seen b written_at)) d.reply in
          let late : IsInFlight P C n.one.seen j = stay P C o.seen n.one.seen j b d.end.one.adds.legal (only o.seen n.one.seen a b written_at) early in
          finished P C n.one.by n.one.seen w.seen j answer (only n.one.seen w.seen (starts_on m.one.seen o.seen n.one.seen a b) written_at (starts_same w.seen)) (still_holds jobs_stay) late e.reply

      pub comes_to : (g : ℕ) (outcome : Outcome) → j.tag ≡ g → outcome ≡ job_outcome P j → HasFinished P C w.seen j answer → WasOnce P C s.one.seen z.one.seen (HasCome station g outcome)
      comes_to g outcome tag_is is h =
          let i = h.tenant.named in
          record {
            point = w.seen;
            within = record {
              before_return = e.last.one.adds.begins;
              behind_call = starts_on s.one.seen m.one.seen w.seen l.met.one.adds.begins
                  (starts_on m.one.seen o.seen w.seen d.reply.adds.begins (starts_on o.seen n.one.seen w.seen d.end.one.adds.begins written_at));
            };
            fact = record {
              p = h.tenant.p;
              tenant = record {
                tenant = i.tenant;
                is = i.is;
                new = i.new;
                station_is = i.station_is ∙ d.reply.station;
                tag_is = i.tag_is ∙ tag_is;
                fact = subst (λ x. HasOutcome x i.tenant) (sym is) i.fact;
              };
            };
          }
