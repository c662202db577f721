use Rattle.std.proofs.Common.{◌≡◌, ℕ, List, ◌++◌, refl, sym, ◌∙◌, subst}
use Rattle.inorder.specs.declared.history.Entry.{Entry}
use Rattle.ruu_words.specs.declared.place.Place.TheVariants.{Station}
use Rattle.ruu_words.specs.Fields.{tag_of, word_value}
use Rattle.station.specs.Recovery.{HasMiss}
use Rattle.station.specs.Steps.{Sees}
use Rattle.station.proofs.Calls.{Of, caller_at, joined, legal_at, next_kept, of_one, only_looked, taken}
use Rattle.station.proofs.Places.{inside}
use Rattle.station.proofs.Mending.{mended_out, miss_on, miss_word, next_out}
use Rattle.station.proofs.recovery.Call+FrontPart.mend_miss.Goals as goal

pub look-found-requires : goal.look-found-requires
look-found-requires c = inside c.args.self.now (legal_at c.self.invariant c.self.view_is) c.requires.miss.miss.named

pub mend_tenant-requires-clause-draft : goal.mend_tenant-requires-clause-draft
mend_tenant-requires-clause-draft c = c.look-found.ensures.grows.kind.mine (caller_at c.self.invariant c.self.view_is) ∙ c.requires.draft

pub mend_tenant-requires-clause-word : goal.mend_tenant-requires-clause-word
mend_tenant-requires-clause-word c = record { tag = refl; state = c.done_word-done.ensures.state; value = refl }

pub mend_tenant-requires-clause-miss : goal.mend_tenant-requires-clause-miss
mend_tenant-requires-clause-miss c =
    let v = c.args.self.now in
    let P = v.core.program in
    let C = v.core.sizes in
    let by_is = caller_at c.self.invariant c.self.view_is in
    let looked = only_looked by_is c.look-found.ensures in
    let between : List Entry = c.look-found.ensures.grows.between in
    let h : List Entry = between ++ v.view.seen in
    let tag = c.requires.miss.tag in
    let next = c.requires.miss.next in
    let miss1 : HasMiss P C h c.args.station tag next = miss_on P C c.args.station tag next between v.view.seen looked.legal looked.none c.requires.miss.miss in
    let found = miss_word P C h looked.legal c.args.station tag next c.look-found.result miss1 c.look-found.ensures.grows.kind.content in
    let done = c.done_word-done.result in
    let tag_is : tag_of done ≡ tag = c.done_word-done.ensures.tag ∙ (c.unpack-tag.ensures.tag ∙ found.0) in
    let next_is : word_value done ≡ next = c.done_word-done.ensures.value ∙ (c.unpack-tag.ensures.value ∙ found.1) in
    subst (λ (z : Of × (List Entry × (ℕ × ℕ))). HasMiss z.0.0.program z.0.0.sizes z.1.0 c.args.station z.1.1.0 z.1.1.1)
    (λ i. (sym (of_one v c.look-found.new.self c.look-found.ensures.same) i, (sym looked.is i, (sym tag_is i, sym next_is i)))) miss1

pub returns : goal.returns
returns c =
    let v = c.args.self.now in
    let P = v.core.program in
    let C = v.core.sizes in
    let by_is = caller_at c.self.invariant c.self.view_is in
    let at = c.look-found.new.self.view in
    let w = c.mend_tenant.new.self.view in
    let g1 = c.look-found.ensures.grows in
    let g2 = taken c.look-found.ensures.same c.mend_tenant.ensures in
    let kind = Sees P C v.view.by v.view (Station c.args.station) c.look-found.result in
    record {
      same = joined c.look-found.ensures.same c.mend_tenant.ensures.same;
      draft = c.mend_tenant.ensures.grows.kind.draft;
      reply = mended_out P C v.view.by c.args.station v.view at w kind g1 g1.kind.none g2 by_is c.requires.miss;
      next = next_kept (joined c.look-found.ensures.same c.mend_tenant.ensures.same) (next_out P C v.view.by c.args.station v.view at w kind g1 g1.kind.none g2 by_is);
    }
