-- The path while the front adds nothing, after a let, and after a renewal.
use Rattle.std.proofs.Common.{◌≡◌, ◌≢◌, ℕ, suc, ◌+◌, ◌%◌, Bool, true, false, ◌&&◌, cond, eqb, ne_eqb, List, [], ◌∷◌, ◌++◌, length, Some, None, refl, sym, ap, ◌∙◌, subst, arith}
use Rattle.instructions.specs.Instruction.{destination, is_first_half}
use Rattle.instructions.specs.declared.op.Half.{Half}
use Rattle.instructions.specs.Programs.{Program, instr_of}
use Rattle.inorder.specs.declared.history.Act.{Act}
use Rattle.inorder.specs.declared.history.Entry.{Entry}
use Rattle.inorder.specs.declared.history.Step.{Step}
use Rattle.inorder.specs.declared.history.Step.TheVariants.{Let, On, Renew}
use Rattle.inorder.specs.declared.history.Event.{Event}
use Rattle.inorder.specs.History.{IsLegal, entry, front, own, unit_of}
use Rattle.inorder.specs.Steps.{new_tenant}
use Rattle.inorder.specs.Legal.{Allowed, MayAct, applied, changed}
use Rattle.inorder.specs.Tenants.{Tenant, destination_of, on_path}
use Rattle.inorder.specs.Unit.{Sizes, UpdateUnit, can_be_written, creator, front_half, front_pc, half_after, how_many, last_writer, next_station, next_tag, older, recent, value_of, younger}
use Rattle.inorder.proofs.Basics.{split_at}
use Rattle.inorder.proofs.Grows.{creator_grows, front_grows, half_grows, sound_mid, value_of_grows}
use Rattle.inorder.proofs.Histories.{own_none}
use Rattle.inorder.proofs.Kept.{parts}
use Rattle.inorder.proofs.Letting.{IsBesides, IsBesidesAct, besides_grows}
use Rattle.inorder.proofs.Moves.{changed_goes}
use Rattle.inorder.proofs.Recent.{counts_same}
use Rattle.inorder.proofs.Sound.{IsSound}
use Rattle.ruu_words.proofs.Stays.{front_stays}
use Rattle.station.specs.Letting.{let_of, supply_of}
use Rattle.station.proofs.Splitting.{last_event}
use Rattle.station.specs.Paths.{IsLed, IsSamePath, LetsLead, PathsStay, RenewalsGoOn}
use Rattle.station.specs.Seats.{Caller}
use Rattle.ruu_words.specs.Openings.{renewed}

path_same : (P : Program) (C : Sizes) (U : UpdateUnit) → IsSamePath P C U U
path_same P C U = record { pc = refl; half = refl; places = refl; station = refl; tag = refl; creators = λ r. refl; values = λ c v e. e }

path_on : (P : Program) (C : Sizes) (U V W : UpdateUnit) → IsSamePath P C U V → IsSamePath P C V W → IsSamePath P C U W
path_on P C U V W a b = record {
  pc = b.pc ∙ a.pc;
  half = b.half ∙ a.half;
  places = b.places ∙ a.places;
  station = b.station ∙ a.station;
  tag = b.tag ∙ a.tag;
  creators = λ r. b.creators r ∙ a.creators r;
  values = λ c v e. b.values c v (a.values c v e);
}

path_under : (P : Program) (C : Sizes) (U : UpdateUnit) (by p : ℕ) (act : Act) → IsBesidesAct act → MayAct P U.tenants by p act → IsSound P U.tenants → IsSamePath P C U (applied P C U by (On p act))
path_under P C U by p act b a sound =
    let us = U.tenants in
    let t = a.tenant in
    let ts = older us p in
    let ys = younger us p in
    let t' = changed P by act t ts in
    let split = split_at us p t a.is in
    let own = sound_mid P t ts ys (subst (IsSound P) split sound) in
    let g = besides_grows P by act ys t ts b a.may own in
    let move = changed_goes P by p act ys t ts a.may own in
    let put = parts P us by p act t a.is in
    let V : UpdateUnit = applied P C U by (On p act) in
    let places : how_many on_path (recent V) ≡ how_many on_path (recent U) = counts_same P U by p act t a.is on_path g.path in
    let station : next_station C (recent V) ≡ next_station C (recent U) = ap (λ z. z % C.ring) places in
    record {
      pc = ap (λ (z : List Tenant). front_pc z) put ∙ (front_grows t t' ts ys g.next g.path ∙ ap (λ (z : List Tenant). front_pc z) (sym split));
      half = ap (λ (z : List Tenant). front_half P z) put ∙ (half_grows P t t' ts ys g.index g.half g.path ∙ ap (λ (z : List Tenant). front_half P z) (sym split));
      places = places;
      station = station;
      tag = ap (λ s. C.first_tag + how_many (λ (u : Tenant). eqb u.station s) (recent V)) station
          ∙ ap (λ z. C.first_tag + z) (counts_same P U by p act t a.is (λ (u : Tenant). eqb u.station (next_station C (recent U))) (ap (λ z. eqb z (next_station C (recent U))) move.station));
      creators = λ r. ap (λ (z : List Tenant). creator P z r) put ∙ (creator_grows P t t' ts ys r g.index g.half g.path ∙ ap (λ (z : List Tenant). creator P z r) (sym split));
      values = λ c v e. subst (λ (z : List Tenant). value_of z c ≡ Some v) (sym put) (value_of_grows t t' ts ys g.made c v (subst (λ (z : List Tenant). value_of z c ≡ Some v) split e));
    }

path_step : (P : Program) (C : Sizes) (U : UpdateUnit) (by : ℕ) (s : Step) → IsBesides s → Allowed P C U by s → IsSound P U.tenants → IsSamePath P C U (applied P C U by s)
path_step P C U by (Let i p f n) b a sound = absurd b
path_step P C U by (On p act) b a sound = path_under P C U by p act b a sound
path_step P C U by Renew b a sound = absurd b

pub path_more : (P : Program) (C : Sizes) (more old : List Entry) → IsLegal P C (more ++ old) → own front more ≡ [] → IsSamePath P C (unit_of P C old) (unit_of P C (more ++ old))
path_more P C more old legal none =
    let U : UpdateUnit = unit_of P C old in
    front_stays P C (λ (V : UpdateUnit). IsSamePath P C U V)
    (λ V by s b a ok q. path_on P C U V (applied P C V by s) q (path_step P C V by s b a ok))
    more old legal none (path_same P C U)

pub paths_stay : PathsStay
paths_stay P C old new added =
    let more : List Entry = added.begins.more in
    let is : new ≡ more ++ old = added.begins.is in
    let legal : IsLegal P C (more ++ old) = subst (IsLegal P C) is added.legal in
    let none : own front more ≡ [] = own_none front more old (sym (ap (own front) is) ∙ added.mine) in
    let U : UpdateUnit = unit_of P C old in
    subst (λ (h : List Entry). IsSamePath P C U (unit_of P C h)) (sym is)
    (front_stays P C (λ (V : UpdateUnit). IsSamePath P C U V)
    (λ V by s b a ok q. path_on P C U V (applied P C V by s) q (path_step P C V by s b a ok))
    more old legal none (path_same P C U))

not_it : (P : Program) (n : Tenant) (ts : List Tenant) → (r : ℕ) → destination_of P n ≢ r → creator P (n ∷ ts) r ≡ creator P ts r
not_it P n ts r ne = go (on_path n)
  where
    go : (b : Bool) → cond (can_be_written r) (cond (b && eqb (destination_of P n) r) (Some (length ts)) (last_writer P ts r)) None ≡ creator P ts r
    go true = ap (λ b. cond (can_be_written r) (cond b (Some (length ts)) (last_writer P ts r)) None) (ne_eqb (destination_of P n) r ne)
    go false = refl

pub lets_lead : LetsLead
lets_lead P C old new t m adds =
    let e : Event = let_of t in
    let l = last_event P C front old new e [] adds in
    let before = paths_stay P C old l.point l.before in
    let U : UpdateUnit = unit_of P C l.point in
    let n : Tenant = new_tenant P C U t.index t.predicted (supply_of t.sources.0) (supply_of t.sources.1) in
    let V : UpdateUnit = unit_of P C (entry front e ∷ l.point) in
    let after = path_more P C l.after (entry front e ∷ l.point) l.legal l.none in
    let half : n.half ≡ t.half = before.half ∙ sym m.half in
    let now : IsLed P C (unit_of P C old) t V = record {
      pc = refl;
      half = ap (λ (h : Half). half_after (is_first_half (instr_of P t.index).op h)) half;
      station = ap (λ z. suc z % C.ring) before.places;
      creators = λ r ne. not_it P n U.tenants r (λ z. ne (ap (λ (h : Half). destination (instr_of P t.index) h) (sym half) ∙ z)) ∙ before.creators r;
    } in
    subst (λ (h : List Entry). IsLed P C (unit_of P C old) t (unit_of P C h)) (sym l.is) (record {
      pc = after.pc ∙ now.pc;
      half = after.half ∙ now.half;
      station = after.station ∙ now.station;
      creators = λ r ne. after.creators r ∙ now.creators r ne;
    })

-- After a renewal

first_station : (P : Program) (C : Sizes) (h : List Entry) → next_station C (recent (unit_of P C (renewed h))) ≡ 0
first_station P C h = omega arith

first_tag : (P : Program) (C : Sizes) (h : List Entry) → next_tag C (recent (unit_of P C (renewed h))) ≡ C.first_tag
first_tag P C h = omega arith

pub renewals_go_on : RenewalsGoOn
renewals_go_on core now old new r =
    let path = paths_stay core.program core.sizes old.front.seen r.last r.met.of_front in
    let seen : new.front.seen ≡ renewed r.last = ap (λ (s : Caller). s.seen) r.first.front_is ∙ r.opening in
    let same : (unit_of now.program now.sizes new.front.seen).tenants ≡ (unit_of core.program core.sizes r.last).tenants = λ i. (unit_of (r.program i) (r.sizes i) (seen i)).tenants in
    record {
      pc = ap (λ (z : List Tenant). front_pc z) same ∙ path.pc;
      half = (λ i. front_half (r.program i) (same i)) ∙ path.half;
      station = ap (λ (h : List Entry). next_station now.sizes (recent (unit_of now.program now.sizes h))) seen ∙ first_station now.program now.sizes r.last;
      tag = ap (λ (h : List Entry). next_tag now.sizes (recent (unit_of now.program now.sizes h))) seen ∙ first_tag now.program now.sizes r.last;
      creators = λ q. (λ i. creator (r.program i) (same i) q) ∙ path.creators q;
      values = λ c v e. ap (λ (z : List Tenant). value_of z c) same ∙ path.values c v e;
    }
