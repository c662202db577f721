-- What comes of the work on the first of two tenants: the second has its value.
use Rattle.std.proofs.Common.{◌≡◌, ◌≢◌, ℕ, Bool, true, false, cond, List, [], ◌∷◌, ◌++◌, map, length, refl, sym, ap, ◌∙◌, subst}
use Rattle.instructions.specs.Operations.{outcome_of}
use Rattle.instructions.specs.Programs.{Program, instr_of}
use Rattle.instructions.specs.declared.stop.Outcome.{Outcome}
use Rattle.instructions.specs.declared.stop.Outcome.TheVariants.{Value}
use Rattle.inorder.specs.declared.history.Act.TheVariants.{Claim, Finish}
use Rattle.inorder.specs.declared.history.Entry.{Entry}
use Rattle.inorder.specs.declared.history.Event.{Event}
use Rattle.inorder.specs.declared.history.Event.TheVariants.{Does, Marks, Refuses}
use Rattle.inorder.specs.declared.history.Mark.TheVariants.{Walked}
use Rattle.inorder.specs.declared.history.Refusal.TheVariants.{Stale as IsStaleNow}
use Rattle.inorder.specs.declared.history.Source.TheVariants.{First, Second}
use Rattle.inorder.specs.declared.history.Step.TheVariants.{On}
use Rattle.inorder.specs.History.{IsLegal, entry, own, unit_of}
use Rattle.inorder.specs.Legal.{MayAct, applied}
use Rattle.inorder.specs.Replies.{IsStale, JobFields}
use Rattle.inorder.specs.Steps.{finished}
use Rattle.inorder.specs.Tenants.{Tenant, kind_of, needs}
use Rattle.inorder.specs.Unit.{Sizes, UpdateUnit}
use Rattle.station.specs.declared.answers.Finish.{Finish as Answer}
use Rattle.station.specs.declared.answers.Finish.TheVariants.{Finished, Stale}
use Rattle.station.specs.Seats.{TheCore}
use Rattle.station.specs.Writeback.{FinishAnswers, IsCarried, IsWalk, job_outcome}
use Rattle.client.specs.Chains.{IsWorkedOut, first_result}
use Rattle.client.proofs.SetUp.{IsSetUp}
use Rattle.client.proofs.Known.{exactly}
use Rattle.client.proofs.LinkedTenants.{a_busy, a_done, b_linked, b_ready, is_claim, is_finish, nobody_squashed, two, walked}
use Rattle.client.proofs.TwoTenants.{a_of}

pub either : (x : Bool) (n : ℕ) → cond x n n ≡ n
either true n = refl
either false n = refl

module _ (core : TheCore) (predicted : ℕ) (set : IsSetUp core predicted) where
  abbrev P : Program
  P = core.program

  abbrev C : Sizes
  C = core.sizes

  abbrev b : Tenant
  b = b_linked P C predicted

  module _ (v : ℕ) (makes : first_result P ≡ Value v) (by : ℕ) (outcome : Outcome) (old new : List Entry) (unit : unit_of P C old ≡ two b (a_of P C)) (alone : (n : ℕ) → n ≢ by → own n new ≡ own n old)
      (w : IsWorkedOut core by (a_of P C) 0 outcome old new) where
    claimed_is : w.mid ≡ entry by (Does (On w.claimed.holds.p Claim)) ∷ old
    claimed_is = exactly by old w.mid (Does (On w.claimed.holds.p Claim) ∷ []) w.claimed.adds.begins w.alone w.claimed.adds.mine

    legal_mid : IsLegal P C (entry by (Does (On w.claimed.holds.p Claim)) ∷ old)
    legal_mid = subst (IsLegal P C) claimed_is w.claimed.adds.legal

    busy : unit_of P C w.mid ≡ two b (a_busy P C predicted by)
    busy =
        let here = is_claim P C predicted by w.claimed.holds.p (subst (λ (U : UpdateUnit). MayAct P U.tenants by w.claimed.holds.p Claim) unit legal_mid.1.1) in
        ap (unit_of P C) claimed_is ∙ (λ i. applied P C (unit i) by (On (here i) Claim))

    computes : job_outcome P w.job ≡ Value v
    computes =
        let f = w.fields_are in
        let first : w.job.first ≡ 0 = ap (λ (z : JobFields). z.first) f ∙ either (needs (kind_of P (a_of P C)) First) 0 in
        let second : w.job.second ≡ 0 = ap (λ (z : JobFields). z.second) f ∙ either (needs (kind_of P (a_of P C)) Second) 0 in
        (λ i. outcome_of (instr_of P (f i).index) (f i).half (f i).pc (first i) (second i) (length P.bytes)) ∙ makes

    alone_mid : (n : ℕ) → n ≢ by → own n new ≡ own n w.mid
    alone_mid n ne = alone n ne ∙ sym (w.alone n ne)

    pub made : unit_of P C new ≡ two (b_ready P C predicted v) (a_done P C predicted v)
    made = go w.answer w.finished
      where
        go : (answer : Answer) → FinishAnswers P C by w.mid new w.job answer → unit_of P C new ≡ two (b_ready P C predicted v) (a_done P C predicted v)
        go Stale x =
            let is : new ≡ entry by (Refuses (IsStaleNow x.p)) ∷ w.mid = exactly by w.mid new (Refuses (IsStaleNow x.p) ∷ []) x.adds.begins alone_mid x.adds.mine in
            let stale : IsStale (two b (a_busy P C predicted by)) x.p = subst (λ U. IsStale U x.p) busy (subst (IsLegal P C) is x.adds.legal).1.1 in
            absurd (nobody_squashed P C predicted by x.p stale.tenant stale.is stale.fact)
        go Finished x =
            let walk : IsWalk P C new x.p x.behind = subst (λ o. IsCarried P C new x.p o x.behind) computes x.carried in
            let events : List Event = Marks (Walked x.p) ∷ (walk.deliveries ++ Does (On x.p Finish) ∷ []) in
            let fin : List Entry = entry by (Does (On x.p Finish)) ∷ w.mid in
            let is : new ≡ entry by (Marks (Walked x.p)) ∷ (map (entry by) walk.deliveries ++ fin) =
            exactly by w.mid new (x.behind ++ Does (On x.p Finish) ∷ []) x.adds.begins alone_mid x.adds.mine
            ∙ (ap (λ es. map (entry by) (es ++ Does (On x.p Finish) ∷ []) ++ w.mid) walk.is
            ∙ ap (λ es. entry by (Marks (Walked x.p)) ∷ es) (behind walk.deliveries (Does (On x.p Finish)))) in
            let legal = subst (IsLegal P C) is x.adds.legal in
            let legal_fin : IsLegal P C fin = before walk.deliveries fin legal.0 in
            let here = is_finish P C predicted by x.p (subst (λ (U : UpdateUnit). MayAct P U.tenants by x.p Finish) busy legal_fin.1.1) in
            let unit_fin : unit_of P C fin ≡ two b (a_done P C predicted v) =
            (λ i. applied P C (busy i) by (On (here i) Finish))
            ∙ ap (λ o. two b (finished (a_busy P C predicted by) o)) makes in
            ap (unit_of P C) is ∙ walked P C predicted set.chain set.ring set.queue set.tags v by x.p new fin unit_fin here walk.deliveries walk.each legal
          where
            behind : (ds : List Event) (d : Event) → map (entry by) (ds ++ d ∷ []) ++ w.mid ≡ map (entry by) ds ++ entry by d ∷ w.mid
            behind [] d = refl
            behind (x ∷ ds) d = ap (λ z. entry by x ∷ z) (behind ds d)

            before : (ds : List Event) (h : List Entry) → IsLegal P C (map (entry by) ds ++ h) → IsLegal P C h
            before [] h l = l
            before (x ∷ ds) h l = before ds h l.0
