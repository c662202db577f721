use Rattle.std.proofs.Common.{◌≡◌, ◌⊎◌, ◌+◌, ◌%◌, [], length, Some, refl, sym, ap, ◌∙◌, subst}
use Rattle.std.specs.Prelude.{slice_index}
use Rattle.instructions.specs.Instruction.{width}
use Rattle.instructions.specs.Operations.{loaded}
use Rattle.lsq.specs.Bytes.{little_endian}
use Rattle.lsq.specs.Entries.{bytes}
use Rattle.lsq.specs.LoadRule.{taken_from}
use Rattle.inorder.specs.Callers.{CanLoad}
use Rattle.inorder.specs.Committed.{committed}
use Rattle.inorder.specs.History.{back}
use Rattle.inorder.specs.OneHistory.{Adds}
use Rattle.inorder.specs.Machine.{State}
use Rattle.inorder.specs.Replies.{IsStale}
use Rattle.inorder.proofs.QueueBytes.{same_width}
use Rattle.back.specs.Backs.{unit_in}
use Rattle.back.specs.Port.{AtStation, HasFound, content_in}
use Rattle.back.proofs.Answering.{committed_same, forward_answers, none_answers, shows_content, unknown_answers, waiting_answers}
use Rattle.back.proofs.Answering.{found_later}
use Rattle.back.proofs.Seeing.{same_on, two_looks}
use Rattle.back.proofs.port.answer.Goals.{After-taken_from}
use Rattle.back.proofs.port.answer.Goals as goal

pub returns-in-Err-clause-err : goal.returns-in-Err-clause-err
returns-in-Err-clause-err c p asked =
    let d = c.args.core.now in
    let a = subst (λ x. Adds d.program d.sizes x c.args.seat.now.seen c.search.new.seat.seen []) c.requires.by c.search.ensures.history in
    unknown_answers d.program d.sizes c.args.seat.now.seen c.search.new.seat.seen a c.args.head c.args.at c.requires.head_is c.requires.head c.requires.at p c.args.load.now asked c.in-Err.k
    c.in-Err.ensures.err

pub returns-in_default-clause-ok : goal.returns-in_default-clause-ok
returns-in_default-clause-ok c p asked =
    let d = c.args.core.now in
    let l = c.args.load.now in
    let old = c.args.seat.now in
    let new = c.search.new.seat in
    let a = subst (λ x. Adds d.program d.sizes x old.seen new.seen []) c.requires.by c.search.ensures.history in
    let found = subst (λ o. HasFound d.program (unit_in d new.seen) (length (unit_in d old.seen).tenants) c.args.head d.sizes.ring 0 c.args.at l.address (width l.op) o) c.in_default.is
    c.in-Ok.ensures.ok in
    let r = none_answers d.program d.sizes old.seen new.seen a c.args.head c.args.at c.requires.head_is c.requires.head c.requires.at p l asked found in
    let memory : (committed d.program (unit_in d new.seen).tenants).memory ≡ c.args.committed.now.memory = ap (λ (s : State). s.memory)
    (committed_same d.program d.sizes old.seen new.seen a ∙ sym c.requires.state) in
    let read : little_endian (slice_index (committed d.program (unit_in d new.seen).tenants).memory) l.address (width l.op) ≡ c.number_at-raw.result =
    (λ i. little_endian (slice_index (memory i)) l.address (sym c.width.ensures.value i)) ∙ sym c.number_at-raw.ensures in
    subst (λ v. CanLoad d.program (unit_in d new.seen) p l.address v ⊎ IsStale (unit_in d new.seen) p) (ap (loaded l.op) read ∙ sym c.loaded.ensures) r

pub returns-clause-history : goal.returns-clause-history
returns-clause-history c =
    let d = c.args.core.now in
    two_looks d.program d.sizes c.args.seat.now.by c.search.new.seat.by c.args.seat.now.seen c.search.new.seat.seen c.operand-data.new.seat.seen c.search.ensures.kept.by c.search.ensures.history
    c.operand-data.ensures.history

-- A store with bytes of the load was found, and its content was looked at

first_look : (c : After-taken_from) → Adds c.args.core.now.program c.args.core.now.sizes back c.args.seat.now.seen c.search.new.seat.seen []
first_look c =
    subst (λ x. Adds c.args.core.now.program c.args.core.now.sizes x c.args.seat.now.seen c.search.new.seat.seen []) c.requires.by c.search.ensures.history

second_look : (c : After-taken_from) → Adds c.args.core.now.program c.args.core.now.sizes back c.search.new.seat.seen c.operand-data.new.seat.seen []
second_look c =
    subst (λ x. Adds c.args.core.now.program c.args.core.now.sizes x c.search.new.seat.seen c.operand-data.new.seat.seen [])
    (c.search.ensures.kept.by ∙ c.requires.by) c.operand-data.ensures.history

whole : (c : After-taken_from) → Adds c.args.core.now.program c.args.core.now.sizes back c.args.seat.now.seen c.operand-data.new.seat.seen []
whole c =
    let d = c.args.core.now in
    two_looks d.program d.sizes back back c.args.seat.now.seen c.search.new.seat.seen c.operand-data.new.seat.seen refl (first_look c) (second_look c)

found : (c : After-taken_from) → HasFound c.args.core.now.program (unit_in c.args.core.now c.search.new.seat.seen)
    (length (unit_in c.args.core.now c.args.seat.now.seen).tenants) c.args.head c.args.core.now.sizes.ring 0 c.args.at c.args.load.now.address
    (width c.args.load.now.op) (Some (c.in-Some.k, c.in-Some.store))
found c =
    let d = c.args.core.now in
    let l = c.args.load.now in
    let n = length (unit_in d c.args.seat.now.seen).tenants in
    subst (λ o. HasFound d.program (unit_in d c.search.new.seat.seen) n c.args.head d.sizes.ring 0 c.args.at l.address (width l.op) o) c.in-Some.is
    c.in-Ok.ensures.ok

still : (c : After-taken_from) → HasFound c.args.core.now.program (unit_in c.args.core.now c.operand-data.new.seat.seen)
    (length (unit_in c.args.core.now c.args.seat.now.seen).tenants) c.args.head c.args.core.now.sizes.ring 0 c.args.at c.args.load.now.address
    (width c.args.load.now.op) (Some (c.in-Some.k, c.in-Some.store))
still c =
    let d = c.args.core.now in
    let l = c.args.load.now in
    found_later d.program d.sizes c.args.seat.now.seen c.search.new.seat.seen c.operand-data.new.seat.seen (first_look c) (second_look c) c.args.head
    d.sizes.ring 0 c.args.at l.address (width l.op) (c.in-Some.k, c.in-Some.store) (found c)

shows : (c : After-taken_from) → AtStation (unit_in c.args.core.now c.operand-data.new.seat.seen) (length (unit_in c.args.core.now c.args.seat.now.seen).tenants)
    ((c.args.head + c.in-Some.k) % c.args.core.now.sizes.ring) (λ u. u.second.value ≡ content_in c.operand-data.result.state c.operand-data.result.value)
shows c =
    let d = c.args.core.now in
    let U = unit_in d c.operand-data.new.seat.seen in
    let n = length (unit_in d c.args.seat.now.seen).tenants in
    let word = c.operand-data.result in
    let station : c.wrapped.result ≡ (c.args.head + c.in-Some.k) % d.sizes.ring =
    c.wrapped.ensures.value ∙ ap (λ r. (c.args.head + c.in-Some.k) % r) c.ring-ring.ensures.value in
    let shown = shows_content U c.wrapped.result word.tag word.state word.value c.operand-data.ensures.reply.its n in
    subst (λ s. AtStation U n s (λ u. u.second.value ≡ content_in word.state word.value)) station shown

says : (c : After-taken_from) → c.taken_from.result ≡ taken_from c.in-Some.store.address (bytes c.in-Some.store.width)
    (content_in c.operand-data.result.state c.operand-data.result.value) c.args.load.now.address (width c.args.load.now.op)
says c =
    let l = c.args.load.now in
    let e = c.in-Some.store in
    c.taken_from.ensures
    ∙ (λ i. taken_from e.address (bytes e.width) (c.content-content.ensures i) l.address ((ap bytes c.access_width.ensures ∙ same_width l.op) i))

pub returns-clause-ok : goal.returns-clause-ok
returns-clause-ok c p asked =
    let d = c.args.core.now in
    let l = c.args.load.now in
    let old = c.args.seat.now.seen in
    let new = c.operand-data.new.seat.seen in
    let content = content_in c.operand-data.result.state c.operand-data.result.value in
    let place = (goal.at.returns-clause-ok c).After-taken_from in
    subst (λ v. CanLoad d.program (unit_in d new) p l.address v ⊎ IsStale (unit_in d new) p) (sym c.loaded-2.ensures)
    (forward_answers d.program d.sizes old new (whole place) c.args.head c.args.at c.requires.head_is c.requires.head c.requires.at p l asked
    c.in-Some.k c.in-Some.store (still place) content (shows place) c.in-Some-taken_from.raw (sym (says place) ∙ c.in-Some-taken_from.is))

pub returns-in_default-taken_from : goal.returns-in_default-taken_from
returns-in_default-taken_from c =
    let d = c.args.core.now in
    let l = c.args.load.now in
    let old = c.args.seat.now in
    let mid = c.search.new.seat in
    let new = c.operand-data.new.seat in
    let content = content_in c.operand-data.result.state c.operand-data.result.value in
    let place = (goal.at.returns-in_default-taken_from c).After-taken_from in
    record {
      kept = same_on old mid new c.search.ensures.kept c.operand-data.ensures.kept;
      woken = c.operand-data.ensures.woken ∙ c.search.ensures.woken;
      history = two_looks d.program d.sizes old.by mid.by old.seen mid.seen new.seen c.search.ensures.kept.by c.search.ensures.history c.operand-data.ensures.history;
      bound = (found place).bound;
      ok = tt;
      err = λ p asked. waiting_answers d.program d.sizes old.seen new.seen (whole place) c.args.head c.args.at c.requires.head_is c.requires.head c.requires.at p l asked
          c.in-Some.k c.in-Some.store (still place) content (shows place) (sym (says place) ∙ c.in_default-taken_from.is);
    }
