-- Loads and stores among what is kept of the path, and those that are live.
use Rattle.std.proofs.Common.{◌≡◌, ◌≢◌, ℕ, suc, ◌<◌, ◌≤◌, Bool, true, false, ◌&&◌, cond, List, [], ◌∷◌, ◌++◌, Some, refl, sym, ap, ◌∙◌, subst, arith}
use Rattle.std.proofs.Common.{append_assoc}
use Rattle.std.proofs.lemmas.List.{append-nil}
use Rattle.std.specs.List.{AllByRecursion}
use Rattle.std.proofs.lemmas.Option.{same_Some}
use Rattle.instructions.specs.Instruction.{is_access, kind}
use Rattle.instructions.specs.Programs.{Program, instr_of}
use Rattle.inorder.specs.declared.history.Entry.{Entry}
use Rattle.inorder.specs.declared.history.Step.{Step}
use Rattle.inorder.specs.declared.history.Step.TheVariants.{Let, On, Renew}
use Rattle.inorder.specs.History.{IsLegal, unit_of}
use Rattle.inorder.specs.Legal.{Allowed, applied, changed}
use Rattle.inorder.specs.Tenants.{Live, Retired, Squashed, Standing, Tenant, is_live, is_live_access, kind_of, on_path, stands_live, stands_on_path}
use Rattle.inorder.specs.Unit.{Sizes, UpdateUnit, at, how_many, older, younger}
use Rattle.inorder.proofs.Basics.{split_at}
use Rattle.inorder.proofs.Ends.{at_older}
use Rattle.inorder.proofs.Grows.{sound_mid}
use Rattle.inorder.proofs.Histories.{unit_lasts, unit_sound}
use Rattle.inorder.proofs.Kept.{parts}
use Rattle.inorder.proofs.Moves.{changed_goes}
use Rattle.inorder.proofs.Positions.{at_below}
use Rattle.inorder.proofs.Sound.{IsSound}
use Rattle.inorder.proofs.OneCaller.Middle.{sound_from}
use Rattle.inorder.proofs.Letting.{how_many_fewer}
use Rattle.front.specs.Path.{rested_at}
use Rattle.front.specs.declared.path.base_state.Base.{Base}
use Rattle.front.specs.declared.path.record.Record.{Record}
use Rattle.front.specs.Knows.{IsFolded, IsGone, FrontKnows, whats}
use Rattle.front.specs.Queues.{memory_records, how_many_accesses}
use Rattle.front.specs.Trail.{Note, trail}
use Rattle.front.proofs.Counts.{FailsAt, SaysAt, TrueAt, at_least, at_most, count}
use Rattle.front.proofs.CutKnown.{live_on}
use Rattle.front.proofs.Lists.{all_both, all_front, all_map, all_rest, all_two}
use Rattle.front.proofs.Named.{notes_noted}
use Rattle.front.proofs.Trails.{IsNoted}
use Rattle.front.proofs.PathParts.{IsOrdered, IsSplit, ordered, split_whats}

live_access : (P : Program) (t t' : Tenant) → t'.index ≡ t.index → (t'.standing ≡ Live → t.standing ≡ Live) → is_live_access P t' ≡ true → is_live_access P t ≡ true
live_access P t t' index live h = go t'.standing refl
  where
    go : (st : Standing) → t'.standing ≡ st → is_live_access P t ≡ true
    go Live e =
        ap (λ z. stands_live z && is_access (kind_of P t)) (live e)
        ∙ (ap (λ k. is_access (kind (instr_of P k).op)) (sym index) ∙ (sym (ap (λ z. stands_live z && is_access (kind_of P t')) e) ∙ h))
    go Retired e = let no : false ≡ true = sym (ap (λ z. stands_live z && is_access (kind_of P t')) e) ∙ h in absurd (cc no)
    go Squashed e = let no : false ≡ true = sym (ap (λ z. stands_live z && is_access (kind_of P t')) e) ∙ h in absurd (cc no)

fewer_under : (P : Program) (C : Sizes) (U : UpdateUnit) (by : ℕ) (s : Step) → Allowed P C U by s →
    IsSound P U.tenants → how_many_accesses P U ≤ C.queue → how_many_accesses P (applied P C U by s) ≤ C.queue
fewer_under P C U by (Let index predicted first second) a ok h = go (is_access (kind (instr_of P index).op)) refl
  where
    go : (b : Bool) → is_access (kind (instr_of P index).op) ≡ b → how_many_accesses P (applied P C U by (Let index predicted first second)) ≤ C.queue
    go true e = subst (λ b. cond b (suc (how_many_accesses P U)) (how_many_accesses P U) ≤ C.queue) (sym e) (a.queue e)
    go false e = subst (λ b. cond b (suc (how_many_accesses P U)) (how_many_accesses P U) ≤ C.queue) (sym e) h
fewer_under P C U by Renew a ok h = h
fewer_under P C U by (On p act) a ok h =
    let us = U.tenants in
    let t = a.tenant in
    let split = split_at us p t a.is in
    let own = sound_mid P t (older us p) (younger us p) (subst (IsSound P) split ok) in
    let m = changed_goes P by p act (younger us p) t (older us p) a.may own in
    let fewer = how_many_fewer (is_live_access P) t (changed P by act t (older us p)) (older us p) (younger us p) (live_access P t (changed P by act t (older us p)) m.index m.live) in
    let was : how_many_accesses P U ≡ how_many (is_live_access P) (younger us p ++ t ∷ older us p) = ap (how_many (is_live_access P)) split in
    let now : how_many_accesses P (applied P C U by (On p act)) ≡ how_many (is_live_access P) (younger us p ++ changed P by act t (older us p) ∷ older us p) = ap (how_many (is_live_access P))
    (parts P us by p act t a.is) in
    omega (arith, fewer, was, now, h)

least : (n : ℕ) → 0 ≤ n
least n = omega arith

pub queue_room : (P : Program) (C : Sizes) (h : List Entry) → IsLegal P C h → how_many_accesses P (unit_of P C h) ≤ C.queue
queue_room P C h legal =
    let whole : h ++ [] ≡ h = append-nil h in
    subst (λ z. how_many_accesses P (unit_of P C z) ≤ C.queue) whole
    (unit_lasts P C (λ U. how_many_accesses P U ≤ C.queue) (λ U by s a ok q. fewer_under P C U by s a ok q) h [] (subst (IsLegal P C) (sym whole) legal) (least C.queue))

-- a tenant of the path after a live one is live
pub live_behind : (P : Program) (us : List Tenant) → IsSound P us → (p q : ℕ) (t u : Tenant) → p < q → at us p ≡ Some t → t.standing ≡ Live → at us q ≡ Some u → on_path u ≡ true → u.standing ≡ Live
live_behind P us ok p q t u lt is live is' on =
    let split = split_at us q u is' in
    live_on P u (older us q) (sound_from P (younger us q) (u ∷ older us q) (subst (IsSound P) split ok)) on p t (at_older us q p t (at_below us q u is') lt is) live

abbrev pub is_access_note : Note → Bool
is_access_note n = n.what.access

count_accesses : (xs : List Note) → count is_access_note xs ≡ memory_records (whats xs)
count_accesses [] = refl
count_accesses (x ∷ xs) = ap (λ z. cond x.what.access (suc z) z) (count_accesses xs)

access_on_path : (P : Program) (t : Tenant) → is_live_access P t ≡ true → on_path t ≡ true
access_on_path P t h = go t.standing refl
  where
    go : (st : Standing) → t.standing ≡ st → on_path t ≡ true
    go Live e = ap stands_on_path e
    go Retired e = ap stands_on_path e
    go Squashed e = let no : false ≡ true = sym (ap (λ z. stands_live z && is_access (kind_of P t)) e) ∙ h in absurd (cc no)

access_only : (a b : Bool) → a && b ≡ true → b ≡ true
access_only true b h = h
access_only false b h = absurd (cc h)

not_live_fails : (P : Program) (t : Tenant) → t.standing ≢ Live → is_live_access P t ≡ false
not_live_fails P t ne = go t.standing refl
  where
    go : (st : Standing) → t.standing ≡ st → is_live_access P t ≡ false
    go Live e = absurd (ne e)
    go Retired e = ap (λ z. stands_live z && is_access (kind_of P t)) e
    go Squashed e = ap (λ z. stands_live z && is_access (kind_of P t)) e

retired_not : Retired ≢ Live
retired_not e = cc e

module _ (P : Program) (C : Sizes) (h : List Entry) (legal : IsLegal P C h) (records : List Record) (base : Base) (k : FrontKnows P C (unit_of P C h) records base) where
  abbrev U : UpdateUnit
  U = unit_of P C h

  gone_fail : (n : Note) → IsGone U n → FailsAt P (is_live_access P) is_access_note U.tenants n
  gone_fail n g t is = not_live_fails P t (λ live. retired_not (sym g.fact ∙ (ap (λ (z : Tenant). z.standing) (same_Some g.tenant t (sym g.is ∙ is)) ∙ live)))

  noted_says : (n : Note) → IsNoted P U.tenants n → SaysAt P (is_live_access P) is_access_note U.tenants n
  noted_says n i t is test =
      ap (λ (z : Record). z.access) (sym i.what) ∙ (ap (λ (z : Tenant). is_access (kind_of P z)) (same_Some i.tenant t (sym i.is ∙ is)) ∙ access_only (is_live t) (is_access (kind_of P t)) test)

  noted : AllByRecursion (IsNoted P U.tenants) k.notes
  noted = notes_noted P C h legal records base (IsFolded U (rested_at base)) k

  -- few are kept: few are live
  pub few_live : how_many_accesses P U ≤ memory_records records
  few_live =
      let few = at_most P (is_live_access P) is_access_note (access_on_path P) U.tenants k.gone k.notes k.path
      (all_map (IsGone U) (FailsAt P (is_live_access P) is_access_note U.tenants) gone_fail k.gone k.retired)
      (all_map (IsNoted P U.tenants) (SaysAt P (is_live_access P) is_access_note U.tenants) noted_says k.notes noted) in
      subst (λ z. how_many_accesses P U ≤ z) (count_accesses k.notes ∙ ap memory_records (sym k.are)) few

  module _ (older : List Record) (x : Record) (younger : List Record) (are : records ≡ older ++ x ∷ younger) where
    pub s : IsSplit k.notes older x younger
    s = split_whats k.notes older x younger (sym k.are ∙ are)

    whole : trail P U.tenants ≡ (k.gone ++ s.before) ++ s.one ∷ s.after
    whole = k.path ∙ (ap (λ z. k.gone ++ z) s.is ∙ sym (append_assoc k.gone s.before (s.one ∷ s.after)))

    order : IsOrdered (k.gone ++ s.before) s.one s.after
    order = ordered P U.tenants (k.gone ++ s.before) s.one s.after whole

    noted_all : AllByRecursion (IsNoted P U.tenants) (s.before ++ s.one ∷ s.after)
    noted_all = subst (AllByRecursion (IsNoted P U.tenants)) s.is noted

    pub one_noted : IsNoted P U.tenants s.one
    one_noted = (all_rest (IsNoted P U.tenants) s.before (s.one ∷ s.after) noted_all).0

    -- it has left: only younger ones are live
    pub behind_left : one_noted.tenant.standing ≡ Retired → how_many_accesses P U ≤ memory_records younger
    behind_left gone =
        let Fails = FailsAt P (is_live_access P) is_access_note U.tenants in
        let before = all_two (IsNoted P U.tenants) (λ n. n.at < s.one.at) Fails older_fails s.before (all_front (IsNoted P U.tenants) s.before (s.one ∷ s.after) noted_all)
        (all_rest (λ n. n.at < s.one.at) k.gone s.before order.before) in
        let first = all_map (IsGone U) Fails gone_fail k.gone k.retired in
        let one : Fails s.one = gone_fail s.one (record { tenant = one_noted.tenant; is = one_noted.is; fact = gone }) in
        let path : trail P U.tenants ≡ ((k.gone ++ s.before) ++ s.one ∷ []) ++ s.after = whole ∙ sym (append_assoc (k.gone ++ s.before) (s.one ∷ []) s.after) in
        let few = at_most P (is_live_access P) is_access_note (access_on_path P) U.tenants ((k.gone ++ s.before) ++ s.one ∷ []) s.after path
        (all_both Fails (k.gone ++ s.before) (s.one ∷ []) (all_both Fails k.gone s.before first before) (one, tt))
        (all_map (IsNoted P U.tenants) (SaysAt P (is_live_access P) is_access_note U.tenants) noted_says s.after ((all_rest (IsNoted P U.tenants) s.before (s.one ∷ s.after) noted_all).1)) in
        subst (λ z. how_many_accesses P U ≤ z) (count_accesses s.after ∙ ap memory_records s.rest) few
      where
        older_fails : (n : Note) → IsNoted P U.tenants n → n.at < s.one.at → FailsAt P (is_live_access P) is_access_note U.tenants n
        older_fails n i lt t is = not_live_fails P t (λ live. retired_not (sym gone ∙ live_behind P U.tenants (unit_sound P C h legal) n.at s.one.at t one_noted.tenant lt is live one_noted.is
            one_noted.on))

    -- it is live: so are all younger ones
    pub behind_live : one_noted.tenant.standing ≡ Live → x.access ≡ true → suc (memory_records younger) ≤ how_many_accesses P U
    behind_live live access =
        let True = TrueAt P (is_live_access P) is_access_note U.tenants in
        let after : AllByRecursion True s.after = all_two (IsNoted P U.tenants) (λ n. s.one.at < n.at) True younger_true s.after
        ((all_rest (IsNoted P U.tenants) s.before (s.one ∷ s.after) noted_all).1) order.after in
        let one : True s.one = true_of s.one one_noted live in
        let many = at_least P (is_live_access P) is_access_note U.tenants (k.gone ++ s.before) (s.one ∷ s.after) whole (one, after) in
        let count_one : count is_access_note (s.one ∷ s.after) ≡ suc (memory_records younger) = ap (λ b. cond b (suc (count is_access_note s.after)) (count is_access_note s.after))
        (ap (λ (z : Record). z.access) s.what ∙ access) ∙ ap suc (count_accesses s.after ∙ ap memory_records s.rest) in
        subst (λ z. z ≤ how_many_accesses P U) count_one many
      where
        true_of : (n : Note) → (i : IsNoted P U.tenants n) → i.tenant.standing ≡ Live → TrueAt P (is_live_access P) is_access_note U.tenants n
        true_of n i live t is access =
            let one = same_Some i.tenant t (sym i.is ∙ is) in
            let its : is_access (kind_of P t) ≡ true = ap (λ (z : Tenant). is_access (kind_of P z)) (sym one) ∙ (ap (λ (z : Record). z.access) i.what ∙ access) in
            ap (λ (z : Tenant). stands_live z.standing && is_access (kind_of P t)) (sym one) ∙ (ap (λ z. stands_live z && is_access (kind_of P t)) live ∙ its)

        younger_true : (n : Note) → IsNoted P U.tenants n → s.one.at < n.at → TrueAt P (is_live_access P) is_access_note U.tenants n
        younger_true n i lt = true_of n i (live_behind P U.tenants (unit_sound P C h legal) s.one.at n.at one_noted.tenant i.tenant lt one_noted.is live i.is i.on)
