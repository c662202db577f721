-- What the front knows stays true under the steps of others, and under links and deliveries of its own.
use Rattle.std.proofs.Common.{◌≡◌, ℕ, ◌+◌, ◌%◌, List, [], refl, sym, ap, ◌∙◌, subst, inl, inr, ⊎_elim, length, ◌≤◌}
use Rattle.std.specs.Prelude.{slice_index, is_none}
use Rattle.instructions.specs.Instruction.{destination, fixed_next, is_access, is_first_half, kind}
use Rattle.instructions.specs.Programs.{Program, instr_of}
use Rattle.inorder.specs.declared.history.Act.{Act}
use Rattle.inorder.specs.declared.history.Act.TheVariants.{Claim, Deliver, Finish, Link, Load, Mend, Retire, Speculate, Squash}
use Rattle.inorder.specs.declared.history.Entry.{Entry}
use Rattle.inorder.specs.declared.history.Step.{Step}
use Rattle.inorder.specs.declared.history.Step.TheVariants.{Let, On, Renew}
use Rattle.inorder.specs.History.{front, unit_of}
use Rattle.inorder.specs.OneHistory.{Adds}
use Rattle.inorder.specs.Legal.{Allowed, May, applied, changed}
use Rattle.inorder.specs.Tenants.{on_path, Tenant}
use Rattle.inorder.specs.Unit.{Sizes, UpdateUnit, next_station, older, recent, younger}
use Rattle.inorder.proofs.Basics.{split_at}
use Rattle.inorder.proofs.Grows.{Grows, same_length, sound_mid}
use Rattle.inorder.proofs.Kept.{link_grows, parts}
use Rattle.inorder.proofs.Letting.{IsBesides, besides_grows}
use Rattle.inorder.proofs.Moves.{changed_goes}
use Rattle.inorder.proofs.Sound.{IsSound, IsSoundAt}
use Rattle.front.specs.Path.{rested_at}
use Rattle.front.specs.declared.path.base_state.Base.{Base}
use Rattle.front.specs.declared.path.record.Record.{Record}
use Rattle.front.specs.Creators.{creator_note, position}
use Rattle.front.specs.Knows.{GoesOnAt, IsFolded, IsGone, IsNewest, RecordsAreReady, FrontKnows, Stands}
use Rattle.front.specs.Trail.{Note, is_link, record_of, trail}
use Rattle.front.proofs.Acts.{still_folded, still_gone, still_newest, still_value}
use Rattle.front.proofs.Lists.{all_map}
use Rattle.front.proofs.Splitting.{IsStable, stays}
use Rattle.front.proofs.Trails.{same_front, trail_same}
use Rattle.inorder.proofs.Recent.{counts_same}

-- acts that leave the path as it is
abbrev pub IsQuietAct : Act → Type 0
IsQuietAct Squash = ⊥
IsQuietAct Mend = ⊥
IsQuietAct (Speculate s) = ⊥
IsQuietAct _ = Unit {0}

abbrev pub IsQuiet : Step → Type 0
IsQuiet (On p act) = IsQuietAct act
IsQuiet _ = ⊥

pub quiet_of : (s : Step) → IsBesides s → IsQuiet s
quiet_of (Let i p f g) b = b
quiet_of Renew b = b
quiet_of (On p (Link k)) b = absurd b
quiet_of (On p (Deliver k)) b = tt
quiet_of (On p Claim) b = tt
quiet_of (On p Finish) b = tt
quiet_of (On p Load) b = tt
quiet_of (On p (Retire n)) b = tt
quiet_of (On p Squash) b = absurd b
quiet_of (On p (Speculate s)) b = absurd b
quiet_of (On p Mend) b = absurd b

pub quiet_grows : (P : Program) (by : ℕ) (act : Act) (ys : List Tenant) (t : Tenant) (ts : List Tenant) → IsQuietAct act → May P by act ys t ts → IsSoundAt P ts t → Grows P t (changed P by act t ts)
quiet_grows P by (Link k) ys t ts b m q = link_grows P ts t k
quiet_grows P by (Deliver k) ys t ts b m q = besides_grows P by (Deliver k) ys t ts tt m q
quiet_grows P by Claim ys t ts b m q = besides_grows P by Claim ys t ts tt m q
quiet_grows P by Finish ys t ts b m q = besides_grows P by Finish ys t ts tt m q
quiet_grows P by Load ys t ts b m q = besides_grows P by Load ys t ts tt m q
quiet_grows P by (Retire n) ys t ts b m q = besides_grows P by (Retire n) ys t ts tt m q
quiet_grows P by Squash ys t ts b m q = absurd b
quiet_grows P by (Speculate s) ys t ts b m q = absurd b
quiet_grows P by Mend ys t ts b m q = absurd b

-- what the front keeps of a tenant
pub record_same : (P : Program) (t t' : Tenant) → t'.station ≡ t.station → t'.tag ≡ t.tag → t'.pc ≡ t.pc → t'.next ≡ t.next → t'.index ≡ t.index → t'.half ≡ t.half → record_of P t' ≡ record_of P t
record_same P t t' station tag pc next index half = λ i. record {
  station = station i;
  tag = tag i;
  pc = pc i;
  next = next i;
  destination = destination (instr_of P (index i)) (half i);
  links = is_link (kind (instr_of P (index i)).op);
  first = is_first_half (instr_of P (index i)).op (half i);
  access = is_access (kind (instr_of P (index i)).op);
  guessed = is_none (fixed_next (instr_of P (index i)) (half i) (pc i));
}

-- an act lets nobody
pub long_under : (P : Program) (C : Sizes) (U : UpdateUnit) (by p : ℕ) (act : Act) → (a : Allowed P C U by (On p act)) → length (applied P C U by (On p act)).tenants ≡ length U.tenants
long_under P C U by p act a =
    let us = U.tenants in
    let t = a.tenant in
    let ts = older us p in
    let ys = younger us p in
    ap (λ z. length z) (parts P us by p act t a.is) ∙ (sym (same_length t (changed P by act t ts) ts ys) ∙ sym (ap (λ z. length z) (split_at us p t a.is)))

module _ (P : Program) (C : Sizes) (U : UpdateUnit) (by : ℕ) where
  pub trail_stays : (s : Step) → IsQuiet s → Allowed P C U by s → IsSound P U.tenants → trail P (applied P C U by s).tenants ≡ trail P U.tenants
  trail_stays (Let i pr f g) b a ok = absurd b
  trail_stays Renew b a ok = absurd b
  trail_stays (On p act) b a ok =
      let us = U.tenants in
      let t = a.tenant in
      let ts = older us p in
      let ys = younger us p in
      let split = split_at us p t a.is in
      let own = sound_mid P t ts ys (subst (IsSound P) split ok) in
      let g = quiet_grows P by act ys t ts b a.may own in
      let m = changed_goes P by p act ys t ts a.may own in
      ap (trail P) (parts P us by p act t a.is)
      ∙ (trail_same P t (changed P by act t ts) ts ys (record_same P t (changed P by act t ts) m.station m.tag m.pc g.next m.index m.half) g.path
      ∙ sym (ap (trail P) split))

  pub place_stays : (s : Step) → IsQuiet s → Allowed P C U by s → IsSound P U.tenants → next_station C (recent (applied P C U by s)) ≡ next_station C (recent U)
  place_stays (Let i pr f g) b a ok = absurd b
  place_stays Renew b a ok = absurd b
  place_stays (On p act) b a ok =
      let us = U.tenants in
      let t = a.tenant in
      let own = sound_mid P t (older us p) (younger us p) (subst (IsSound P) (split_at us p t a.is) ok) in
      ap (λ n. n % C.ring) (counts_same P U by p act t a.is on_path (quiet_grows P by act (younger us p) t (older us p) b a.may own).path)

  long_stays : (s : Step) → IsQuiet s → Allowed P C U by s → length (applied P C U by s).tenants ≡ length U.tenants
  long_stays (Let i pr f g) b a = absurd b
  long_stays Renew b a = absurd b
  long_stays (On p act) b a = long_under P C U by p act a

  fresh_stays : (s : Step) → IsQuiet s → (applied P C U by s).fresh ≡ U.fresh
  fresh_stays (Let i pr f g) b = absurd b
  fresh_stays Renew b = absurd b
  fresh_stays (On p act) b = refl

  pub goes_stays : (s : Step) → IsQuiet s → Allowed P C U by s → IsSound P U.tenants → (base : Base) → GoesOnAt P C U base → GoesOnAt P C (applied P C U by s) base
  goes_stays s b a ok base g =
      let same = same_front P (applied P C U by s).tenants U.tenants (trail_stays s b a ok) in
      record { pc = same.0 ∙ g.pc; half = same.1 ∙ g.half; station = place_stays s b a ok ∙ g.station }

  newest_stays : (s : Step) → IsQuiet s → Allowed P C U by s → IsSound P U.tenants → (n : Note) → IsNewest U n → IsNewest (applied P C U by s) n
  newest_stays (Let i pr f g) b a ok n h = absurd b
  newest_stays Renew b a ok n h = absurd b
  newest_stays (On p act) b a ok n h = still_newest P C U by p act a ok n h

  pub stands_stay : (s : Step) → IsQuiet s → Allowed P C U by s → IsSound P U.tenants →
      (records : List Record) (base : Base) (Again Again' : Note → Type 0) →
      ((n : Note) → Again n → Again' n) → Stands P C U records base Again →
      Stands P C (applied P C U by s) records base Again'
  stands_stay s b a ok records base Again Again' again k =
      let V = applied P C U by s in
      record {
        gone = k.gone;
        notes = k.notes;
        path = trail_stays s b a ok ∙ k.path;
        are = k.are;
        room = k.room;
        begun = λ none. goes_stays s b a ok base (k.begun none);
        retired = all_map (IsGone U) (IsGone V) (still_gone P C U by s a ok) k.gone k.retired;
        again = all_map Again Again' again k.gone k.again;
        newest = all_map (IsNewest U) (IsNewest V) (newest_stays s b a ok) k.notes k.newest;
        past = subst (λ z. rested_at base ≤ z) (sym (long_stays s b a)) k.past;
        since = subst (λ (z : ℕ × ℕ). z.0 ≤ rested_at base + z.1) (λ i. (sym (long_stays s b a) i, sym (fresh_stays s b) i)) k.since;
        untold = k.untold;
        wide = k.wide;
        base_is = λ r h. still_value P C U by s a ok (position (creator_note k.gone r)) (slice_index base.registers r) (k.base_is r h);
      }

  pub knows_stays : (records : List Record) (base : Base) (s : Step) → IsQuiet s → Allowed P C U by s →
      IsSound P U.tenants → FrontKnows P C U records base → FrontKnows P C (applied P C U by s) records base
  knows_stays records base s b a ok k = stands_stay s b a ok records base (IsFolded U (rested_at base)) (IsFolded (applied P C U by s) (rested_at base)) (still_folded P C U by s a ok (rested_at base))
      k

  pub ready_stays : (records : List Record) (base : Base) (s : Step) → IsQuiet s → Allowed P C U by s →
      IsSound P U.tenants → RecordsAreReady P C U records base →
      RecordsAreReady P C (applied P C U by s) records base
  ready_stays records base s b a ok r =
      let V = applied P C U by s in
      let place = place_stays s b a ok in
      record {
        stands = stands_stay s b a ok records base _ _
            (λ n h. ⊎_elim (λ x. inl (still_folded P C U by s a ok (rested_at base) n x)) (λ x. inr (x ∙ sym place)) h)
            r.stands;
        free = r.free;
      }

module _ (P : Program) (C : Sizes) (records : List Record) (base : Base) where
  pub knows_stable : IsStable P C (λ U. FrontKnows P C U records base)
  knows_stable U by s b a ok k = knows_stays P C U by records base s (quiet_of s b) a ok k

  pub ready_stable : IsStable P C (λ U. RecordsAreReady P C U records base)
  ready_stable U by s b a ok k = ready_stays P C U by records base s (quiet_of s b) a ok k

-- where the front has added nothing
pub still_knows : {P : Program} {C : Sizes} {old new : List Entry} {records : List Record} {base : Base} → Adds P C front old new [] → FrontKnows P C (unit_of P C old) records base →
    FrontKnows P C (unit_of P C new) records base
still_knows {P} {C} {old} {new} {records} {base} a k = stays P C (λ U. FrontKnows P C U records base) (knows_stable P C records base) old new a k
