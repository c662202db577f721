-- What was seen of the older stores answers a load.
use Rattle.std.proofs.Common.{◌≡◌, ℕ, ◌+◌, ◌%◌, ◌<◌, ◌≤◌, Bool, true, false, ◌&&◌, List, length, Some, None, refl, sym, ap, ◌∙◌, subst, inl, inr, arith, unwrap_or, zero-le}
use Rattle.std.proofs.lemmas.Bool.{cases_lt}
use Rattle.std.specs.Prelude.{slice_index, is_none}
use Rattle.instructions.specs.Instruction.{is_access, width}
use Rattle.instructions.specs.Operations.{loaded}
use Rattle.instructions.specs.Programs.{Program}
use Rattle.lsq.specs.Bytes.{little_endian}
use Rattle.lsq.specs.declared.answer.Answer.TheVariants.{Blocked}
use Rattle.lsq.specs.declared.entry.Entry.{Entry}
use Rattle.lsq.specs.Entries.{bytes}
use Rattle.lsq.specs.LoadRule.{answer, lacks_address, overlaps, taken_from, youngest}
use Rattle.inorder.specs.Callers.{CanLoad, head_station}
use Rattle.inorder.specs.Committed.{committed}
use Rattle.inorder.specs.Loads.{access_width, address_by, content_by, entry_of, is_store, place_of, queue_of}
use Rattle.inorder.specs.Memory.{raw, raw_at}
use Rattle.inorder.specs.Replies.{Has}
use Rattle.inorder.specs.Steps.{MayLoad}
use Rattle.inorder.specs.Tenants.{Addr, Live, Tenant, computed, instr, is_live_access, kind_of, stands_live}
use Rattle.inorder.specs.Unit.{Sizes, UpdateUnit, at, older, younger}
use Rattle.inorder.proofs.Basics.{split_at}
use Rattle.inorder.proofs.Loads.{forward, from_memory}
use Rattle.inorder.proofs.Positions.{at_below}
use Rattle.inorder.proofs.QueueBytes.{store_accesses, store_is}
use Rattle.inorder.proofs.QueuePlaces.{access_live, at_older, older_length}
use Rattle.inorder.proofs.Sound.{IsSound}
use Rattle.inorder.proofs.Pairs.{and_left}
use Rattle.back.specs.Loads.{IsWaitingLoad}
use Rattle.back.specs.Port.{AtStation, HasFound, HasMet, HasUnknown, IsBlockedAt, IsKnown, IsLoadOf, IsMet, DoesNotWaitFor, station_behind}
use Rattle.back.specs.declared.port.Load.{Load}
use Rattle.back.proofs.Ranks.{at_rank, InRing, rank, rank_grows, rank_less, rank_small, same_rank, stands_at}
use Rattle.back.proofs.RuleOver.{FoundIn, blocked_answer, blocked_lacking, forward_answer, found_in, memory_answer, none_in, whole_place}

-- One that is known has its address, if it is a store
known_not_lacking : (P : Program) (u : Tenant) → IsKnown P u → lacks_address (entry_of P u) ≡ false
known_not_lacking P u (inl e) = ap (λ b. b && is_none (entry_of P u).address) e
known_not_lacking P u (inr h) = ap (λ f. is_store (kind_of P u) && is_none (address_by (kind_of P u) f (computed P u))) h.1 ∙ and_false (is_store (kind_of P u))
  where
    and_false : (b : Bool) → (b && false) ≡ false
    and_false true = refl
    and_false false = refl

-- the entry of a store that was met, but for its data
met_entry : (P : Program) (u : Tenant) (base : ℕ) → is_store (kind_of P u) ≡ true → u.fate ≡ Addr base
    → entry_of P u ≡ record { store = true; width = access_width (instr P u).op; address = Some base; content = u.second.value }
met_entry P u base s f = λ i. record {
  store = s i;
  width = access_width (instr P u).op;
  address = address_by (kind_of P u) (f i) (computed P u);
  content = content_by (store_is (kind_of P u) s i) u.second.value;
}

store_live : (P : Program) (u : Tenant) → u.standing ≡ Live → is_store (kind_of P u) ≡ true → is_live_access P u ≡ true
store_live P u live s = ap (λ y. stands_live y && is_access (kind_of P u)) live ∙ store_accesses (kind_of P u) (store_is (kind_of P u) s)

-- lacking or overlapping, it is a store
module _ (P : Program) (C : Sizes) (U : UpdateUnit) (ok : IsSound P U.tenants) (ring : InRing C U) (n head place : ℕ)
    (head_is : head ≡ head_station C U) (inside : head < C.ring) (small : place < C.ring) (p : ℕ) (below : p < n) (l : Load) (it : Has U p (IsLoadOf P (station_behind head C.ring place) l)) where
  abbrev us : List Tenant
  us = U.tenants

  abbrev t : Tenant
  t = it.tenant

  abbrev a : ℕ
  a = l.address

  abbrev w : ℕ
  w = width (instr P t).op

  abbrev before : List Tenant
  before = older us p

  live : t.standing ≡ Live
  live = it.fact.load.live

  -- each live tenant stands by its rank
  stands : (q : ℕ) (u : Tenant) → at us q ≡ Some u → u.standing ≡ Live → u.station ≡ station_behind head C.ring (rank us q)
  stands q u is alive = stands_at P C U ok ring q u is alive ∙ ap (λ h. (h + rank us q) % C.ring) (sym head_is)

  rank_is : rank us p ≡ place
  rank_is = same_rank head (rank us p) place C.ring inside (rank_small C U ring p t it.is live) small (sym (stands p t it.is live) ∙ it.fact.station_is)

  rank_below : (q : ℕ) (u : Tenant) → at us q ≡ Some u → u.standing ≡ Live → q < p → rank us q < place
  rank_below q u is alive lt = let less = rank_grows us q p u t is alive it.is lt in omega (arith, less, rank_is)

  -- those before it, in the unit
  position : length before ≡ p
  position = older_length us p t it.is

  pub inner : (q : ℕ) (u : Tenant) → at before q ≡ Some u → (at us q ≡ Some u) × (q < p)
  inner q u is =
      let l = at_below before q u is in
      (ap (λ xs. at xs q) (split_at us p t it.is) ∙ (at_older before (younger us p) t q l ∙ is), omega (arith, l, position))

  outer : (q : ℕ) (u : Tenant) → at us q ≡ Some u → q < p → at before q ≡ Some u
  outer q u is lt =
      let l : q < length before = omega (arith, lt, position) in
      sym (at_older before (younger us p) t q l) ∙ (sym (ap (λ xs. at xs q) (split_at us p t it.is)) ∙ is)

  -- what is so of each station before that of the load is so of each older live tenant
  each : (Fact : Tenant → Type 0) → ((j : ℕ) → 0 ≤ j → j < place → AtStation U n (station_behind head C.ring j) Fact) → (q : ℕ) (u : Tenant) → at us q ≡ Some u → u.standing ≡ Live → q < p → Fact u
  each Fact h q u is alive lt = h (rank us q) zero-le (rank_below q u is alive lt) q u (omega (arith, lt, below)) is alive (stands q u is alive)

  -- the tenant of a station, and those that are younger than it
  pub record Older (j : ℕ) : Type 0 where
    pub q : ℕ
    pub tenant : Tenant
    pub is : at us q ≡ Some tenant
    pub alive : tenant.standing ≡ Live
    pub before_it : q < p
    pub station : tenant.station ≡ station_behind head C.ring j
    pub rank_of : rank us q ≡ j

  older_at : (j : ℕ) → j < place → Older j
  older_at j l =
      let few = rank_less us p t it.is live in
      let h = at_rank us j (omega (arith, few, rank_is, l)) in
      record {
        q = h.q;
        tenant = h.tenant;
        is = h.is;
        alive = h.live;
        before_it = first h.q h.tenant h.is h.live (ap (λ x. x) h.rank_is);
        station = stands h.q h.tenant h.is h.live ∙ ap (station_behind head C.ring) h.rank_is;
        rank_of = h.rank_is;
      }
    where
      first : (q : ℕ) (u : Tenant) → at us q ≡ Some u → u.standing ≡ Live → rank us q ≡ j → q < p
      first q u is alive e = elim (cases_lt q p) [
        | inl lt ↦ lt
        | inr le ↦ elim (cases_lt p q) [
          | inl more ↦ (let g = rank_grows us p q t u it.is live is more in absurd (omega (arith, g, e, rank_is, l)))
          | inr same ↦ (let eq : q ≡ p = omega (arith, le, same) in let r = ap (rank us) eq in absurd (omega (arith, r, e, rank_is, l)))
        ]
      ]

  all_known : (T : Entry → Bool) (Fact : Tenant → Type 0) →
      ((u : Tenant) → Fact u → T (entry_of P u) ≡ false) →
      ((q : ℕ) (u : Tenant) → at us q ≡ Some u → u.standing ≡ Live → q < p → Fact u) →
      youngest T (queue_of P before) ≡ None
  all_known T Fact fails h = none_in P T before (λ q u is b. let z = inner q u is in fails u (h q u z.0 (access_live P u b) z.1))

  found_at : (T : Entry → Bool) (o : (j : ℕ) → Type 0) (j : ℕ) (x : Older j) → is_store (kind_of P x.tenant) ≡ true → T (entry_of P x.tenant) ≡ true
      → ((r : ℕ) (v : Tenant) → at us r ≡ Some v → v.standing ≡ Live → r < p → x.q < r → T (entry_of P v) ≡ false) → FoundIn P T before x.q x.tenant
  found_at T o j x s e h = found_in P T before x.q x.tenant (outer x.q x.tenant x.is x.before_it) (store_live P x.tenant x.alive s) e
      (λ r v lt is b. let z = inner r v is in h r v z.0 (access_live P v b) z.1 lt)

  -- a younger one stands further from the head
  rank_after : (j : ℕ) (x : Older j) (r : ℕ) (v : Tenant) → at us r ≡ Some v → x.q < r → j < rank us r
  rank_after j x r v is lt = let g = rank_grows us x.q r x.tenant v x.is x.alive is lt in let e = x.rank_of in omega (arith, g, e)

  waits : IsWaitingLoad P t
  waits = record { load = it.fact.load; address = a; fate = it.fact.fate }

  -- blocked by the store of a station
  blocked_by : (T : Entry → Bool) (j : ℕ) (x : Older j) (f : FoundIn P T before x.q x.tenant) →
      is_store (kind_of P x.tenant) ≡ true → answer (queue_of P us) (place_of P us p) ≡ Blocked f.place →
      IsBlockedAt P U p (station_behind head C.ring j)
  blocked_by T j x f s e = record {
    q = x.q;
    blocks = record {
      load = record { tenant = t; is = it.is; fact = waits };
      store = record { tenant = x.tenant; is = x.is; fact = record { live = x.alive; kind = store_is (kind_of P x.tenant) s } };
      before = x.before_it;
      place = f.place;
      entry = entry_of P x.tenant;
      there = whole_place P us p t a ok it.is live it.fact.load.kind it.fact.fate T x.q x.tenant f;
      answers = e;
    };
    store = record { tenant = x.tenant; is = x.is; fact = x.station };
  }

  -- its value
  can_load : (bytes : ℕ) → MayLoad P before t × (raw_at P before (instr P t) a ≡ Some bytes) → CanLoad P U p a (loaded l.op bytes)
  can_load bytes r = record {
    tenant = t;
    is = it.is;
    may = r.0;
    fate = it.fact.fate;
    value_is = ap (λ f. loaded (instr P t).op (unwrap_or (raw P before (instr P t) f) 0)) it.fact.fate
        ∙ (ap (λ z. loaded (instr P t).op (unwrap_or z 0)) r.1 ∙ ap (λ o. loaded o bytes) it.fact.op_is);
  }

  -- the youngest that has no address
  pub by_unknown : (s : ℕ) → HasUnknown P U n head C.ring place s → IsBlockedAt P U p (station_behind head C.ring s)
  by_unknown s h =
      let x = older_at s h.bound in
      let lacks = h.it x.q x.tenant (below_n x.q x.before_it) x.is x.alive x.station in
      let store = and_left (is_store (kind_of P x.tenant)) (is_none (entry_of P x.tenant).address) lacks in
      let f = found_at lacks_address (λ j. Unit {0}) s x store lacks
      (λ r v is alive lt after. known_not_lacking P v (h.younger (rank us r) (rank_after s x r v is after) (rank_below r v is alive lt) r v (below_n r lt) is alive (stands r v is alive))) in
      blocked_by lacks_address s x f store (blocked_lacking P us p t a ok it.is live it.fact.load.kind it.fact.fate x.q x.tenant f)
    where
      below_n : (q : ℕ) → q < p → q < n
      below_n q lt = omega (arith, lt, below)

  -- none overlaps it
  pub by_none : HasFound P U n head C.ring 0 place a (width l.op) None → CanLoad P U p a (loaded l.op (little_endian (slice_index (committed P us).memory) a (width l.op)))
  by_none h0 =
      let h = subst (λ o. HasFound P U n head C.ring 0 place a (width o) None) (sym it.fact.op_is) h0 in
      let facts = each (DoesNotWaitFor P a w) h in
      let known = all_known lacks_address (DoesNotWaitFor P a w) (λ u f. known_not_lacking P u f.known) facts in
      let none = all_known (overlaps a w) (DoesNotWaitFor P a w) (λ u f. f.apart) facts in
      let r = from_memory P us p t a ok it.is live it.fact.load.kind it.fact.fate (memory_answer P us p t a ok it.is live it.fact.load.kind it.fact.fate known none) in
      subst (λ o. CanLoad P U p a (loaded l.op (little_endian (slice_index (committed P us).memory) a (width o)))) it.fact.op_is (can_load _ r)

  -- the youngest that overlaps it
  module _ (s : ℕ) (e : Entry) (h0 : HasMet P U n head C.ring 0 place a (width l.op) s e) where
    h : HasMet P U n head C.ring 0 place a w s e
    h = subst (λ o. HasMet P U n head C.ring 0 place a (width o) s e) (sym it.fact.op_is) h0

    pub x : Older s
    x = older_at s h.bound

    pub met : IsMet P a w e x.tenant
    met = h.it x.q x.tenant (let lt = x.before_it in omega (arith, lt, below)) x.is x.alive x.station

    known : youngest lacks_address (queue_of P before) ≡ None
    known = all_known lacks_address (IsKnown P) (λ u f. known_not_lacking P u f) (each (IsKnown P) h.known)

    entry_is : entry_of P x.tenant ≡ record { store = true; width = access_width (instr P x.tenant).op; address = Some met.base; content = x.tenant.second.value }
    entry_is = met_entry P x.tenant met.base met.store met.fate

    meets_it : overlaps a w (entry_of P x.tenant) ≡ true
    meets_it = ap (overlaps a w) entry_is ∙ (sym (ap (overlaps a w) met.entry) ∙ met.meets)

    f : FoundIn P (overlaps a w) before x.q x.tenant
    f = found_at (overlaps a w) (λ j. Unit {0}) s x met.store meets_it
        (λ r v is alive lt after. (h.younger (rank us r) (rank_after s x r v is after) (rank_below r v is alive lt) r v (omega (arith, lt, below)) is alive (stands r v is alive)).apart)

    -- what it gives, with its data
    gives_is : taken_from (entry_of P x.tenant).address (bytes (entry_of P x.tenant).width) (entry_of P x.tenant).content a w ≡ taken_from e.address (bytes e.width) x.tenant.second.value a w
    gives_is =
        ap (λ y. taken_from y.address (bytes y.width) y.content a w) entry_is
        ∙ sym (ap (λ y. taken_from y.address (bytes y.width) x.tenant.second.value a w) met.entry)

    pub by_store : (raw : ℕ) →
        ((u : Tenant) → at us x.q ≡ Some u → u.standing ≡ Live → u.station ≡ station_behind head C.ring s → taken_from e.address (bytes e.width) u.second.value a (width l.op) ≡ Some raw) →
        CanLoad P U p a (loaded l.op raw)
    by_store raw g =
        let taken = gives_is ∙ (ap (λ o. taken_from e.address (bytes e.width) x.tenant.second.value a (width o)) it.fact.op_is ∙ g x.tenant x.is x.alive x.station) in
        can_load raw (forward P us p t a ok it.is live it.fact.load.kind it.fact.fate raw (forward_answer P us p t a ok it.is live it.fact.load.kind it.fact.fate known x.q x.tenant f raw taken))

    pub by_waiting : ((u : Tenant) → at us x.q ≡ Some u → u.standing ≡ Live → u.station ≡ station_behind head C.ring s → taken_from e.address (bytes e.width) u.second.value a (width l.op) ≡ None) →
        IsBlockedAt P U p (station_behind head C.ring s)
    by_waiting g =
        let taken = gives_is ∙ (ap (λ o. taken_from e.address (bytes e.width) x.tenant.second.value a (width o)) it.fact.op_is ∙ g x.tenant x.is x.alive x.station) in
        blocked_by (overlaps a w) s x f met.store (blocked_answer P us p t a ok it.is live it.fact.load.kind it.fact.fate known x.q x.tenant f taken)
