-- What the looks before a let tell: why nothing can be let, or that it can.
use Rattle.std.proofs.Common.{◌≡◌, ◌≢◌, ℕ, ◌+◌, ◌<◌, ◌≤◌, true, false, List, [], ◌∷◌, length, Option, Some, None, refl, sym, ap, ◌∙◌, subst, arith, eqb}
use Rattle.std.proofs.lemmas.Option.{same_Some}
use Rattle.instructions.specs.declared.op.Half.{Half}
use Rattle.instructions.specs.Programs.{Program, instr_at}
use Rattle.instructions.specs.declared.instr.Instr.{Instr}
use Rattle.inorder.specs.declared.history.Entry.{Entry}
use Rattle.inorder.specs.declared.history.Step.TheVariants.{Let, On, Renew}
use Rattle.inorder.specs.History.{front, unit_of}
use Rattle.inorder.specs.OneHistory.{Adds}
use Rattle.inorder.specs.Legal.{applied}
use Rattle.inorder.specs.Replies.{HasNoInstr, IsFull, HasFullQueue, IsSpent, last_tag}
use Rattle.inorder.specs.Tenants.{Tenant}
use Rattle.inorder.proofs.Histories.{adds_on}
use Rattle.inorder.specs.Unit.{Sizes, next_station, next_tag, older, recent, tag_after}
use Rattle.inorder.proofs.Moves.{goes}
use Rattle.inorder.proofs.Tags.{same_place}
use Rattle.ruu_words.specs.declared.station.StationState.{StationState}
use Rattle.ruu_words.specs.declared.station.StationState.TheVariants.{Free}
use Rattle.ruu_words.specs.Content.{HasValue}
use Rattle.ruu_words.specs.Kinds.{IsTenant}
use Rattle.station.specs.declared.answers.Seen.{Seen}
use Rattle.station.specs.Looking.{SeesStation}
use Rattle.station.specs.Moments.{WasOnce}
use Rattle.inorder.specs.StationWords.{left_value}
use Rattle.front.specs.declared.path.base_state.Base.{Base}
use Rattle.front.specs.declared.path.record.Record.{Record}
use Rattle.front.specs.Fetching.{CanFetch, HasLeft, OldestLeft}
use Rattle.front.specs.Knows.{IsFolded, FrontKnows, whats}
use Rattle.front.specs.Path.{next_half, station_of_next, pc_behind, rested_at}
use Rattle.front.specs.Queues.{QueueSays}
use Rattle.front.specs.Trail.{Note}
use Rattle.front.specs.Turns.{NoInstrNow, QueueFullNow, SpentNow, WasNotFull}
use Rattle.front.proofs.Acts.{gone_there}
use Rattle.front.proofs.Moments.{at_end, before_end, looks_free, looks_full, looks_spent, no_instr, queue_free, queue_full, some_instr}
use Rattle.front.proofs.Named.{stands_right}
use Rattle.front.proofs.Places.{known_half, known_pc, known_place, notes_length}
use Rattle.front.proofs.Splitting.{IsStable, stays}
use Rattle.front.proofs.Stations.{next_tag_is, oldest_left}
use Rattle.front.proofs.Stays.{place_stays, quiet_of, still_knows}
use Rattle.front.proofs.Cuts.{head_of}
use Rattle.inorder.proofs.Recent.{counts_same, old_kept}
use Rattle.inorder.proofs.Letting.{IsBesides}

-- What stays

pub tag_stable : (P : Program) (C : Sizes) (n : ℕ) → IsStable P C (λ U. next_tag C (recent U) ≡ n)
tag_stable P C n U by (Let i pr f g) b a ok e = absurd b
tag_stable P C n U by Renew b a ok e = absurd b
tag_stable P C n U by (On p act) b a ok e =
    let t = a.tenant in
    let V = applied P C U by (On p act) in
    let place : next_station C (recent V) ≡ next_station C (recent U) = place_stays P C U by (On p act) (quiet_of (On p act) b) a ok in
    let count = counts_same P U by p act t a.is (λ u. eqb u.station (next_station C (recent U)))
    (ap (λ z. eqb z (next_station C (recent U))) (same_place P by act t (older U.tenants p)).0) in
    ap (tag_after C (recent V)) place ∙ (ap (λ z. C.first_tag + z) count ∙ e)

pub left_stable : (P : Program) (C : Sizes) (p s g left : ℕ) → IsStable P C (λ U. IsTenant U p s g (HasLeft left))
left_stable P C p s g left U by st b a ok i =
    let z = gone_there P C U by st a ok p i.tenant i.is i.fact.retired in
    let m = goes P C U by st a ok p i.tenant i.is in
    let one = same_Some m.tenant z.tenant (sym m.is ∙ z.is) in
    record {
      tenant = z.tenant;
      is = z.is;
      new = old_kept P C U by st (λ e. subst IsBesides e b) a p ∙ i.new;
      station_is = ap (λ (y : Tenant). y.station) (sym one) ∙ (m.goes.station ∙ i.station_is);
      tag_is = ap (λ (y : Tenant). y.tag) (sym one) ∙ (m.goes.tag ∙ i.tag_is);
      fact = record { retired = z.stays.standing; value = subst (λ y. HasValue y left) (λ j. left_value (sym z.stays.fate j) (sym z.stays.made j)) i.fact.value };
    }

-- The first of the notes
pub record FirstNote (notes : List Note) (x : Record) : Type 0 where
  pub one : Note
  pub rest : List Note
  pub is : notes ≡ one ∷ rest
  pub what : one.what ≡ x

pub first_note : (notes : List Note) (x : Record) (xs : List Record) → whats notes ≡ x ∷ xs → FirstNote notes x
first_note [] x xs e = absurd (cc e)
first_note (n ∷ ns) x xs e = record { one = n; rest = ns; is = refl; what = head_of n.what x (whats ns) xs e }

-- The front has looked at its next station, and has seen this there
pub record LookedAhead (P : Program) (C : Sizes) (old h : List Entry) (records : List Record) (base : Base) (station : ℕ) (seen : Seen StationState) : Type 0 where
  pub knows : FrontKnows P C (unit_of P C old) records base
  pub adds : Adds P C front old h []
  pub least : 2 ≤ C.ring
  pub station_is : station ≡ station_of_next C.ring base records
  pub sees : SeesStation P C h station seen

pub looked : {P : Program} {C : Sizes} {old h : List Entry} {records : List Record} {base : Base} {by ring station : ℕ} (seen : Seen StationState) → FrontKnows P C (unit_of P C old) records base →
    by ≡ front → Adds P C by old h [] → ring ≡ C.ring → 2 ≤ ring → station ≡ station_of_next ring base records → SeesStation P C h station seen → LookedAhead P C old h records base station seen
looked {P} {C} {old} {h} {records} {base} seen knows by adds ring least station sees = record {
  knows = knows;
  adds = subst (λ i. Adds P C i old h []) by adds;
  least = omega (arith, least, ring);
  station_is = station ∙ ap (λ z. station_of_next z base records) ring;
  sees = sees;
}

-- What is at a pc, by what was fetched there
pub at_pc : {P Q : Program} (pc : ℕ) {found here : Option Instr} → Q ≡ P → found ≡ instr_at Q pc → found ≡ here → instr_at P pc ≡ here
at_pc {P} {Q} pc program fetch is = ap (λ z. instr_at z pc) (sym program) ∙ (sym fetch ∙ is)

module _ {P : Program} {C : Sizes} {old h : List Entry} {records : List Record} {base : Base} {station : ℕ} {seen : Seen StationState} (a : LookedAhead P C old h records base station seen) where
  pub knows_now : FrontKnows P C (unit_of P C h) records base
  knows_now = still_knows a.adds a.knows

  place : station ≡ next_station C (recent (unit_of P C h))
  place = a.station_is ∙ sym (known_place P C (unit_of P C h) records base (IsFolded (unit_of P C h) (rested_at base)) knows_now (stands_right P C h a.adds.legal))

  sees_next : SeesStation P C h (next_station C (recent (unit_of P C h))) seen
  sees_next = subst (λ z. SeesStation P C h z seen) place a.sees

  pub looked_on : {new : List Entry} → Adds P C front h new [] → Adds P C front old new []
  looked_on {new} more = adds_on P C front old h new [] [] a.adds more

  pub full_now : seen.state ≢ Free → WasOnce P C old h (IsFull C)
  full_now ne = at_end P C (IsFull C) old h [] a.adds (looks_full P C h a.adds.legal seen sees_next records base knows_now ne)

  module _ (free : seen.state ≡ Free) where
    is_free : ¬ IsFull C (unit_of P C h)
    is_free = looks_free P C h a.adds.legal seen sees_next records base knows_now (omega (arith, a.least)) free

    module _ {pc : ℕ} (pc_is : pc ≡ pc_behind base records) where
      pub no_instr_now : instr_at P pc ≡ None → NoInstrNow P C old h
      no_instr_now e = record {
        no_instr = at_end P C (HasNoInstr P) old h [] a.adds (no_instr P C h records base knows_now pc pc_is e);
        not_full = at_end P C (λ U. ¬ IsFull C U) old h [] a.adds is_free;
      }

      module _ {i : Instr} (there : instr_at P pc ≡ Some i) {new : List Entry} (more : Adds P C front h new []) where
        knows_new : FrontKnows P C (unit_of P C new) records base
        knows_new = still_knows more knows_now

        not_full_once : WasNotFull P C old new
        not_full_once = before_end P C (λ U. ¬ IsFull C U) old h new [] [] a.adds more is_free

        instr_once : WasOnce P C old new (λ U. ¬ HasNoInstr P U)
        instr_once = before_end P C (λ U. ¬ HasNoInstr P U) old h new [] [] a.adds more (some_instr P C h records base knows_now pc i pc_is there)

        pub queue_full_now : QueueSays P C (unit_of P C new) i true → QueueFullNow P C old new
        queue_full_now q = record {
          queue_full = at_end P C (HasFullQueue P C) old new [] (looked_on more) (queue_full P C new records base knows_new pc i pc_is there q);
          not_full = not_full_once;
          instr = instr_once;
        }

        pub spent_now : QueueSays P C (unit_of P C new) i false → seen.tag ≡ last_tag → SpentNow P C old new
        spent_now q e = record {
          spent = before_end P C (IsSpent C) old h new [] [] a.adds more (looks_spent P C h a.adds.legal seen sees_next free e);
          not_full = not_full_once;
          instr = instr_once;
          room = at_end P C (λ U. ¬ HasFullQueue P C U) old new [] (looked_on more) (queue_free P C new records base knows_new pc i pc_is there q);
        }

        oldest : OldestLeft C (unit_of P C new) records seen.value
        oldest x xs e many =
            let f = first_note knows_now.notes x xs (sym knows_now.are ∙ e) in
            let long : C.ring ≤ length knows_now.notes = subst (λ z. C.ring ≤ z) (notes_length P C (unit_of P C h) records base (IsFolded (unit_of P C h) (rested_at base)) knows_now) many in
            let gone = oldest_left P C h a.adds.legal records base knows_now seen sees_next free f.one f.rest f.is long in
            let still = stays P C (λ U. IsTenant U f.one.at f.one.what.station f.one.what.tag (HasLeft seen.value)) (left_stable P C f.one.at f.one.what.station f.one.what.tag seen.value) h new more
            gone in
            record { p = f.one.at; tenant = subst (λ (z : Record). IsTenant (unit_of P C new) f.one.at z.station z.tag (HasLeft seen.value)) f.what still }

        pub can_fetch : {half : Half} {ring : ℕ} → half ≡ next_half base records → QueueSays P C (unit_of P C new) i false → seen.tag ≢ last_tag → seen.tag ≤ last_tag → station < ring →
            ring ≡ C.ring → CanFetch P C new records (record { instr = i; half = half; pc = pc; station = station; last_value = seen.value })
        can_fetch half_is q ne most small ring_is =
            let tag : next_tag C (recent (unit_of P C new)) ≡ seen.tag = stays P C (λ U. next_tag C (recent U) ≡ seen.tag) (tag_stable P C seen.tag) h new more
            (next_tag_is P C h a.adds.legal seen sees_next free) in
            record {
              next = record {
                station = a.station_is ∙ sym (known_place P C (unit_of P C new) records base (IsFolded (unit_of P C new) (rested_at base)) knows_new (stands_right P C new more.legal));
                small = subst (λ z. station < z) ring_is small;
                tag = omega (arith, tag, ne, most);
                pc = pc_is ∙ sym (known_pc P C (unit_of P C new) records base (IsFolded (unit_of P C new) (rested_at base)) knows_new);
                half = half_is ∙ sym (known_half P C (unit_of P C new) records base (IsFolded (unit_of P C new) (rested_at base)) knows_new);
                instr = there;
                queue = q;
              };
              oldest = oldest;
            }
