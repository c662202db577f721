-- The rule for loads is right.
use Rattle.std.proofs.Common.{◌≡◌, ℕ, ◌+◌, ◌≤◌, true, false, ◌&&◌, List, [], ◌∷◌, ◌++◌, map, length, Option, Some, None, refl, sym, ap, ◌∙◌, subst, inl, inr, ⊎_elim, arith, append_assoc}
use Rattle.std.specs.List.{AllByRecursion}
use Rattle.std.specs.Option.{option_and_then}
use Rattle.std.specs.Prelude.{slice_index, slice_get, is_some, option_map, take}
use Rattle.std.proofs.lemmas.List.{take-map, take_at}
use Rattle.std.proofs.lemmas.Option.{slice_get-map}
use Rattle.lsq.proofs.LoadsRight.{forward_is, memory_is, blocked_is_right}
use Rattle.instructions.specs.Instruction.{is_access, width}
use Rattle.instructions.specs.Programs.{Program}
use Rattle.instructions.specs.declared.op.Kind.TheVariants.{Loads, Stores}
use Rattle.lsq.specs.declared.answer.Answer.TheVariants.{Blocked, Forward, Memory}
use Rattle.lsq.specs.declared.entry.Entry.{Entry}
use Rattle.inorder.specs.Committed.{commits_by, committed}
use Rattle.inorder.specs.Legal.{Taken, reached}
use Rattle.inorder.specs.Loads.{LoadsAreAnswered, WaitsForStore, access_width, address_by, entry_in, entry_of, is_store, live_accesses, place_of, queue_of, with_access}
use Rattle.inorder.specs.Memory.{byte_at, raw, raw_at}
use Rattle.inorder.specs.Steps.{MayLoad}
use Rattle.inorder.specs.Tenants.{Addr, Live, Tenant, computed, instr, is_live_access, kind_of, stands_live}
use Rattle.inorder.specs.Unit.{Sizes, at, older, younger}
use Rattle.lsq.specs.Bytes.{little_endian}
use Rattle.lsq.specs.Entries.{bytes, load_by}
use Rattle.lsq.specs.LastStores.{CannotGive, WaitsFor, byte_left, number_left}
use Rattle.lsq.specs.LoadRule.{answer, answer_over, answer_to}
use Rattle.inorder.proofs.Basics.{number_there, split_at}
use Rattle.inorder.proofs.Commits.{not_complete, over}
use Rattle.inorder.proofs.Grows.{sound_mid}
use Rattle.inorder.proofs.InOrderStep.{load_in}
use Rattle.inorder.proofs.Kept.{sound}
use Rattle.inorder.proofs.QueueBytes.{byte_left_live, get_end, get_front, known, same_number, same_width, store_is}
use Rattle.inorder.proofs.QueuePlaces.{StartsOf, access_live, at_older, found, older_length, sound_tail, starts_of}
use Rattle.inorder.proofs.SettledRegisters.{committed_if}
use Rattle.inorder.proofs.Sound.{FateIs, IsSound}

-- The answer to one load

module _ (P : Program) (ts : List Tenant) (p : ℕ) (t : Tenant) (a : ℕ) (sound_ts : IsSound P ts) (e : at ts p ≡
    Some t) (live : t.standing ≡ Live) (ek : kind_of P t ≡ Loads) (ef : t.fate ≡ Addr a) where
  abbrev before : List Tenant
  before = older ts p

  abbrev w : ℕ
  w = width (instr P t).op

  split : ts ≡ younger ts p ++ t ∷ before
  split = split_at ts p t e

  sound_at : IsSound P (younger ts p ++ t ∷ before)
  sound_at = subst (IsSound P) split sound_ts

  sound_before : IsSound P before
  sound_before = sound_tail P t before (younger ts p) sound_at

  fate : FateIs P t (Addr a)
  fate = subst (FateIs P t) ef (sound_mid P t before (younger ts p) sound_at).own.fate

  inside : a + w ≤ length P.bytes
  inside = load_in P t a ek fate.1

  same_memory : (committed P before).memory ≡ (committed P ts).memory
  same_memory =
      ap (λ u. u.memory) (sym
      (ap (committed P) split ∙ over P t t before (younger ts p) live sound_at
      ∙ committed_if P t before false (not_complete P t (ap (λ y. commits_by y t.fate) live))))

  -- its place
  position : length before ≡ p
  position = older_length ts p t e

  accesses : is_live_access P t ≡ true
  accesses = ap (λ y. stands_live y && is_access (kind_of P t)) live ∙ ap is_access ek

  rest : StartsOf P (younger ts p ++ t ∷ before) (t ∷ before)
  rest = starts_of P (t ∷ before) (younger ts p)

  whole : live_accesses P ts ≡ (live_accesses P before ++ (p, entry_of P t) ∷ []) ++ rest.more
  whole =
      ap (live_accesses P) split
      ∙ rest.is
      ∙ ap (λ b. (live_accesses P before ++ with_access b (length before, entry_of P t)) ++ rest.more) accesses
      ∙ ap (λ n. (live_accesses P before ++ (n, entry_of P t) ∷ []) ++ rest.more) position

  place : slice_get (live_accesses P ts) (place_of P ts p) ≡ Some (p, entry_of P t)
  place =
      ap (λ es. slice_get es (place_of P ts p)) whole
      ∙ get_end (live_accesses P before) (p, entry_of P t) rest.more

  front : take (place_of P ts p) (queue_of P ts) ≡ queue_of P before
  front =
      take-map entry_in (place_of P ts p) (live_accesses P ts)
      ∙ ap (λ es. map entry_in (take (place_of P ts p) es)) (whole
      ∙ append_assoc (live_accesses P before) ((p, entry_of P t) ∷ []) rest.more)
      ∙ ap (map entry_in) (take_at (live_accesses P before) ((p, entry_of P t) ∷ rest.more)
      (place_of P ts p) refl)

  -- the rule looks at the older entries
  there : slice_get (queue_of P ts) (place_of P ts p) ≡ Some (entry_of P t)
  there = slice_get-map entry_in (live_accesses P ts) (place_of P ts p) ∙ ap (option_map entry_in) place

  is_load : load_by (entry_of P t).store (entry_of P t).address (entry_of P t).width ≡ Some
      (record { address = a; width = bytes (access_width (instr P t).op) })
  is_load =
      ap (λ k. load_by (is_store k) (address_by k t.fate (computed P t)) (access_width (instr P t).op)) ek
      ∙ ap (λ f. load_by false (address_by Loads f (computed P t)) (access_width (instr P t).op)) ef

  pub answers : answer (queue_of P ts) (place_of P ts p) ≡ answer_over (queue_of P before) a w
  answers =
      ap (λ o. answer_to (option_and_then (λ x. load_by x.store x.address x.width) o) (queue_of P ts)
      (place_of P ts p)) there
      ∙ ap (λ o. answer_to o (queue_of P ts) (place_of P ts p)) is_load
      ∙ ap (λ es. answer_over es a (bytes (access_width (instr P t).op))) front
      ∙ ap (answer_over (queue_of P before) a) (same_width (instr P t).op)

  -- what the stores leave
  abbrev start_byte : ℕ → Option ℕ
  start_byte x = Some (slice_index (committed P before).memory x)

  reads : raw_at P before (instr P t) a ≡ number_left (queue_of P before) start_byte a w
  reads =
      same_number (byte_at P before) (λ x. byte_left (queue_of P before) x (start_byte x)) a w
      (λ x l m. byte_left_live P before sound_before x (omega (arith, inside)))

  may : AllByRecursion Rattle.lsq.specs.LastStores.EntryHasAddress (queue_of P before) → (n : ℕ) →
      raw_at P before (instr P t) a ≡ Some n → MayLoad P before t
  may k n r =
      record { live = live; kind = ek; a = a; fate = ef; addresses = known P before k; bytes = n; read = r }

  pub forward : (raw : ℕ) → answer (queue_of P ts) (place_of P ts p) ≡ Forward raw →
      MayLoad P before t × (raw_at P before (instr P t) a ≡ Some raw)
  forward raw h =
      let f = forward_is (queue_of P before) a w raw (sym answers ∙ h) in
      let r = reads ∙ f.number start_byte in
      (may f.known raw r, r)

  pub from_memory : answer (queue_of P ts) (place_of P ts p) ≡ Memory →
      MayLoad P before t × (raw_at P before (instr P t) a ≡ Some
      (little_endian (slice_index (committed P ts).memory) a w))
  from_memory h =
      let m = memory_is (queue_of P before) a w (sym answers ∙ h) in
      let r =
      reads
      ∙ m.number start_byte
      ∙ number_there start_byte (slice_index (committed P before).memory) a w (λ x l k. refl)
      ∙ ap (λ u. Some (little_endian (slice_index u) a w)) same_memory
      in
      (may m.known _ r, r)

  blocked : (k : ℕ) → answer (queue_of P ts) (place_of P ts p) ≡ Blocked k → WaitsForStore P ts p a w k
  blocked k h = go (slice_get (live_accesses P before) k) refl
    where
      b : WaitsFor (queue_of P before) a w k
      b = blocked_is_right (queue_of P before) a w k (sym answers ∙ h)

      mapped : (o : Option (ℕ × Entry)) → slice_get (live_accesses P before) k ≡ o →
          option_map entry_in o ≡ Some b.entry
      mapped o i =
          ap (option_map entry_in) (sym i) ∙ sym (slice_get-map entry_in (live_accesses P before) k) ∙ b.there

      go : (o : Option (ℕ × Entry)) → slice_get (live_accesses P before) k ≡ o → WaitsForStore P ts p a w k
      go None i = let no = mapped None i in absurd (cc)
      go (Some (q, x)) i =
          let f = found P before k q x i in
          let store = f.tenant in
          let same : entry_of P store ≡ b.entry = let m = mapped (Some (q, x)) i in f.entry ∙ cc m in
          let kind : kind_of P store ≡ Stores = store_is (kind_of P store) (ap (λ z. z.store) same ∙ b.store) in
          record {
            q = q;
            store = store;
            is = ap (λ us. at us q) split ∙ at_older before (younger ts p) t q f.inside ∙ f.is;
            before = let l = f.inside in omega (arith, l, position);
            live = access_live P store f.live;
            kind = kind;
            there =
                ap (λ es. slice_get es k) (whole
                ∙ append_assoc (live_accesses P before) ((p, entry_of P t) ∷ []) rest.more)
                ∙ get_front (live_accesses P before) _ k (q, entry_of P store) (i
                ∙ ap (λ z. Some (q, z)) (sym f.entry));
            why =
                ⊎_elim (λ n. inl (ap (λ z. is_some z.address) same ∙ n)) (λ n. inr
                (subst (CannotGive (queue_of P before) a w k) (sym same) n)) b.why;
          }

pub loads_are_answered : (P : Program) (C : Sizes) (history : List Taken) → LoadsAreAnswered P C history
loads_are_answered P C history p t a allowed e live ek ef =
    let ts = (reached P C history).tenants in
    let s = sound P C history allowed in
    record {
      place = place P ts p t a s e live ek ef;
      forward = forward P ts p t a s e live ek ef;
      memory = from_memory P ts p t a s e live ek ef;
      blocked = blocked P ts p t a s e live ek ef;
    }
