-- What a seat's caller knows stays true under the steps of others.
use Rattle.std.proofs.Common.{◌≡◌, ℕ, ◌%◌, Bool, [], ◌++◌, map, sym, ap, ◌∙◌, subst}
use Rattle.atomic_table.specs.Table.{Me}
use Rattle.instructions.specs.Programs.{Program}
use Rattle.inorder.specs.declared.history.Step.{Step}
use Rattle.inorder.specs.declared.history.Step.TheVariants.{Let, On, Renew}
use Rattle.inorder.specs.History.{IsLegal, entry, front, own, unit_of}
use Rattle.inorder.proofs.Basics.{split_at}
use Rattle.inorder.proofs.Grows.{sound_mid}
use Rattle.inorder.proofs.Letting.{IsBesides, besides_grows}
use Rattle.inorder.specs.Legal.{Allowed, applied}
use Rattle.inorder.specs.Tenants.{on_path}
use Rattle.inorder.specs.Unit.{Sizes, UpdateUnit, next_station, older, recent, younger}
use Rattle.inorder.proofs.Sound.{IsSound}
use Rattle.ruu_words.specs.declared.place.Place.{Place}
use Rattle.ruu_words.specs.declared.rule.Role.{Role}
use Rattle.ruu_words.specs.declared.rule.Role.TheVariants.{Back, Front, Spent, Start, Worker}
use Rattle.ruu_words.specs.declared.rule.View.{View}
use Rattle.ruu_words.specs.Views.{IsAlive, informed}
use Rattle.ruu_words.specs.Telling.{Grows}
use Rattle.ruu_words.proofs.Stays.{front_stays}
use Rattle.station.specs.Seats.{IsSeated, Knows}
use Rattle.station.specs.Steps.{Sees}
use Rattle.station.proofs.Adding.{adds_these}
use Rattle.station.proofs.Backs.{back_on}
use Rattle.inorder.proofs.Recent.{counts_same}

-- only the front changes the path
pub next_stays : (P : Program) (C : Sizes) (U : UpdateUnit) (by : ℕ) (s : Step) → IsBesides s → Allowed P C U by s → IsSound P U.tenants →
    next_station C (recent (applied P C U by s)) ≡ next_station C (recent U)
next_stays P C U by (Let index predicted first second) b a sound = absurd b
next_stays P C U by (On p act) b a sound =
    let us = U.tenants in
    let t = a.tenant in
    let ts = older us p in
    let ys = younger us p in
    let split = split_at us p t a.is in
    let own = sound_mid P t ts ys (subst (IsSound P) split sound) in
    let same = (besides_grows P by act ys t ts b a.may own).path in
    ap (λ n. n % C.ring) (counts_same P U by p act t a.is on_path same)
next_stays P C U by Renew b a sound = absurd b

pub is_alive : (P : Program) (C : Sizes) (role : Role) (by station : ℕ) (over : Bool) (me : Me ℕ View) → IsSeated P C role by station over me → IsAlive me.0.role
is_alive P C role by station over me s = subst IsAlive (sym s.role_is) (go role s.knows)
  where
    go : (r : Role) → Knows P C r by station over me.0 → IsAlive r
    go Start k = absurd k
    go Front k = tt
    go Back k = tt
    go Worker k = tt
    go Spent k = absurd k

-- a seat after a look
pub seated_on : (P : Program) (C : Sizes) (role : Role) (by station : ℕ) (over : Bool) (v w : Me ℕ View) (x : Place) (n : ℕ) → IsSeated P C role by station over v
    → Grows P C by v.0 w.0 (Sees P C by v.0 x n) → w.1 ≡ v.1 → IsSeated P C role by station over w
seated_on P C role by station over v w x n s g slots =
    let seen : w.0.seen ≡ g.between ++ v.0.seen = g.is ∙ ap (λ es. map (entry by) es ++ (g.between ++ v.0.seen)) g.kind.none in
    let legal : IsLegal P C (g.between ++ v.0.seen) = subst (IsLegal P C) seen g.legal in
    record {
      role_is = g.role ∙ s.role_is;
      slots = slots ∙ s.slots;
      legal = g.legal;
      inside = s.inside;
      knows = go role s.knows seen legal;
    }
  where
    go : (r : Role) → Knows P C r by station over v.0 → w.0.seen ≡ g.between ++ v.0.seen → IsLegal P C (g.between ++ v.0.seen) → Knows P C r by station over w.0
    go Start k e l = absurd k
    go Front k e l =
        let none : own front g.between ≡ [] = subst (λ i. own i g.between ≡ []) k.0 g.not_own in
        let stay = front_stays P C (λ U. station ≡ next_station C (recent U)) (λ U b st ok a sound q. q ∙ sym (next_stays P C U b st ok a sound)) g.between v.0.seen l none k.2 in
        (k.0, g.kind.mine k.0 ∙ k.1, stay ∙ ap (λ h. next_station C (recent (unit_of P C h))) (sym e))
    go Back k e l = back_on P C by station over v.0.seen w.0.seen [] (adds_these P C by v.0 w.0 (Sees P C by v.0 x n) [] g g.kind.none) tt k
    go Worker k e l = tt
    go Spent k e l = absurd k

-- a seat that was told of what another has seen
pub informed_seated : (P : Program) (C : Sizes) (role : Role) (by station : ℕ) (over : Bool) (me : Me ℕ View) (w : View) → IsSeated P C role by station over me →
    IsSeated P C role by station over (informed me.0 w, me.1)
informed_seated P C role by station over me w s = record { role_is = s.role_is; slots = s.slots; legal = s.legal; inside = s.inside; knows = go role s.knows }
  where
    go : (r : Role) → Knows P C r by station over me.0 → Knows P C r by station over (informed me.0 w)
    go Start k = k
    go Front k = k
    go Back k = k
    go Worker k = k
    go Spent k = k
