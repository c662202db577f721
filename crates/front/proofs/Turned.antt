-- A turn that lets: what the predictor was told and asked, and the whole.
use Rattle.std.proofs.Common.{◌≡◌, ℕ, ◌<◌, ◌≤◌, List, [], ◌∷◌, ◌++◌, length, Option, Some, None, refl, sym, ap, ◌∙◌, subst, arith}
use Rattle.std.proofs.lemmas.List.{append-nil}
use Rattle.instructions.specs.Guesses.{Guesses, IsAsked, IsTold}
use Rattle.instructions.specs.declared.op.Half.{Half}
use Rattle.instructions.specs.Instruction.{fixed_next}
use Rattle.instructions.specs.Programs.{Program}
use Rattle.instructions.specs.declared.instr.Instr.{Instr}
use Rattle.inorder.specs.declared.history.Entry.{Entry}
use Rattle.inorder.specs.declared.history.Event.TheVariants.{Does}
use Rattle.inorder.specs.declared.history.Step.TheVariants.{Let}
use Rattle.inorder.specs.History.{front, unit_of}
use Rattle.inorder.specs.OneHistory.{Adds}
use Rattle.inorder.specs.StationWords.{last_of}
use Rattle.inorder.specs.Unit.{Sizes, next_station, recent}
use Rattle.inorder.proofs.Histories.{adds_on}
use Rattle.ruu_words.specs.Kinds.{IsTenant}
use Rattle.front.specs.declared.path.base_state.Base.{Base}
use Rattle.front.specs.declared.fetch.Fetched.{Fetched}
use Rattle.front.specs.declared.path.Path.{Path}
use Rattle.front.specs.declared.path.record.Record.{Record}
use Rattle.front.specs.Fetching.{HasLeft, IsLeft, OldestLeft}
use Rattle.front.specs.Knows.{IsFolded, FrontKnows, whats}
use Rattle.front.specs.Path.{Releases, rested_at}
use Rattle.front.specs.Questions.{IsDispatched}
use Rattle.front.specs.Training.{leaver_if, leaver_in, leaver_of, untold}
use Rattle.front.specs.Trail.{Note}
use Rattle.front.specs.Turns.{IsLet, LetsOut}
use Rattle.front.proofs.Looked.{left_stable}
use Rattle.front.proofs.Releasing.{next_is}
use Rattle.front.proofs.Splitting.{stays}
use Rattle.front.proofs.Stays.{still_knows}
use Rattle.front.proofs.Trained.{nobody_told, oldest_told}
use Rattle.front.proofs.Cuts.{head_of}

-- where nothing was added before
pub lets_since : (P : Program) (C : Sizes) (begin old new : List Entry) (station tag pc predicted : ℕ) →
    Adds P C front begin old [] → LetsOut P C old new station tag pc predicted →
    LetsOut P C begin new station tag pc predicted
lets_since P C begin old new station tag pc predicted a l =
    let events = l.second_asked ++ (l.first_asked ++ Does (Let l.index predicted l.first l.second) ∷ []) in
    record {
      index = l.index;
      first = l.first;
      second = l.second;
      point = l.point;
      before = adds_on P C front begin old l.point [] [] a l.before;
      behind = l.behind;
      station_is = l.station_is;
      tag_is = l.tag_is;
      pc_is = l.pc_is;
      first_asked = l.first_asked;
      second_asked = l.second_asked;
      asks_first = l.asks_first;
      asks_second = l.asks_second;
      adds = subst (λ z. Adds P C front begin new z) (append-nil events) (adds_on P C front begin old new [] events a l.adds);
    }

module _ {S : Type 0} (Predicts : S → ℕ → Instr → ℕ → S → Type 0) (Learns : S → ℕ → ℕ → S → Type 0) (P : Program) (C : Sizes) (begin old new : List Entry) (records : List Record) (base : Base)
    (k : FrontKnows P C (unit_of P C begin) records base) (adds : Adds P C front begin old [])
    (f : Fetched) (oldest : OldestLeft C (unit_of P C old) records f.last_value) (ring : ℕ) (ring_is : ring ≡ C.ring) (path path' : Path) (path_is : path.records ≡ records) (predicted tag : ℕ)
    (d : IsDispatched P C old new f predicted tag) where
  abbrev point : List Entry
  point = d.lets.point

  knows_there : FrontKnows P C (unit_of P C point) records base
  knows_there = still_knows d.lets.before
      (still_knows adds k)

  told_there : (left : Option Record) → Releases ring f.last_value path left path' → (s s' : S) →
      IsTold Learns (leaver_of left) s s' →
      IsTold Learns (leaver_in P (last_of (untold (rested_at base) (unit_of P C point).tenants) f.station)) s s'
  told_there None r s s' told =
      let few : length records < C.ring = subst (λ z. length records < z) ring_is (subst (λ z. length z < ring) path_is r.0) in
      subst (λ z. IsTold Learns (leaver_in P (last_of (untold (rested_at base) (unit_of P C point).tenants) z)) s s') (sym d.lets.station_is)
      (subst (λ z. IsTold Learns (leaver_in P (last_of (untold (rested_at base) (unit_of P C point).tenants) (next_station C (recent (unit_of P C point))))) s z) (sym told)
      (nobody_told Learns P C point d.lets.before.legal records base knows_there few s))
  told_there (Some x) r s s' told = go knows_there.notes refl
    where
      are : records ≡ x ∷ path'.records
      are = sym path_is ∙ r.1.records

      full : C.ring ≤ length records
      full = subst (λ z. z ≤ length records) ring_is (subst (λ z. ring ≤ length z) path_is r.0)

      go : (xs : List Note) → knows_there.notes ≡ xs → IsTold Learns (leaver_in P (last_of (untold (rested_at base) (unit_of P C point).tenants) f.station)) s s'
      go [] e = let n = ap (λ z. length z) (sym are ∙ (knows_there.are ∙ ap whats e)) in absurd (omega arith)
      go (n ∷ ns) e =
          let one : n.what ≡ x = head_of n.what x (whats ns) path'.records (sym (ap whats e) ∙ (sym knows_there.are ∙ are)) in
          let gone = oldest x path'.records are full in
          let still = stays P C (λ U. IsTenant U gone.p x.station x.tag (HasLeft f.last_value)) (left_stable P C gone.p x.station x.tag f.last_value) old point d.lets.before gone.tenant in
          let left : IsLeft (unit_of P C point) n.what f.last_value = subst (λ z. IsLeft (unit_of P C point) z f.last_value) (sym one) (record { p = gone.p; tenant = still }) in
          let place = next_is P C point d.lets.before.legal records base (IsFolded (unit_of P C point) (rested_at base)) knows_there n ns e full in
          let its : IsTold Learns (leaver_if n.what.guessed n.what.pc n.what.next) s s' = subst (λ (z : Record). IsTold Learns (leaver_if z.guessed z.pc z.next) s s') (sym one) told in
          subst (λ z. IsTold Learns (leaver_in P (last_of (untold (rested_at base) (unit_of P C point).tenants) z)) s s') (sym d.lets.station_is)
          (oldest_told Learns P C point d.lets.before.legal records base knows_there n ns e place f.last_value left s s' its)

  pub is_let : (left : Option Record) → Releases ring f.last_value path left path' → (s s' : S) →
      Guesses Predicts Learns (leaver_of left) f.instr f.half f.pc predicted s s' →
      IsLet Predicts Learns P C (rested_at base) begin new s s' f.station tag f.pc
  unfolding lets_since
  is_let left r s s' g = record {
    predicted = predicted;
    lets = lets_since P C begin old new f.station tag f.pc predicted adds d.lets;
    trains = record {
      middle = g.middle;
      told = told_there left r s g.middle g.told;
      asked = subst (λ (z : Instr × Half). IsAsked Predicts (fixed_next z.0 z.1 f.pc) f.pc z.0 predicted g.middle s')
          (λ i. (sym d.instr i, sym d.half i)) g.asked;
    };
  }
