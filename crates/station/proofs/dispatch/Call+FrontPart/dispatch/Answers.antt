-- A let, step by step: what was found, and what is known with each word in its place.
use Rattle.std.proofs.Common.{subst, arith}
use Rattle.inorder.specs.StationWords.{live_word}
use Rattle.inorder.specs.Tenants.{Open}
use Rattle.ruu_words.specs.declared.rule.Draft.TheVariants.{Nothing}
use Rattle.ruu_words.specs.declared.rule.Stage.TheVariants.{BothOperands, FirstOperand, Info}
use Rattle.ruu_words.specs.Content.{IsStation}
use Rattle.station.specs.Letting.{draft_of}
use Rattle.station.proofs.Calls.{caller_at, joined, legal_at}
use Rattle.station.proofs.LettingOut.{IsReady, about_at, let_now, looked, operand_at, shows_tenant, stored, tag_at}
use Rattle.station.proofs.Places.{about_inside}
use Rattle.station.proofs.dispatch.Call+FrontPart.dispatch.Goals.{After-store_first, After-store_info, After-store_second, After-unpack-tag}
use Rattle.station.proofs.dispatch.Call+FrontPart.dispatch.Goals as goal

pub look-found-requires : goal.look-found-requires
look-found-requires c = about_inside c.requires.letting

pub pack-info_word-requires : goal.pack-info_word-requires
pack-info_word-requires c = c.requires.small

found : (c : After-unpack-tag) → IsReady c.args.self.now c.args.tenant c.args.station c.unpack-tag.result.tag Nothing c.look-found.new.self
found c = looked (legal_at c.self.invariant c.self.view_is) (caller_at c.self.invariant c.self.view_is) c.requires.letting c.look-found.ensures c.unpack-tag.ensures.tag

pub store_info-requires : goal.store_info-requires
store_info-requires c = record {
  letting = about_at (found (goal.at.store_info-requires c).After-unpack-tag);
  word = shows_tenant c.args.tenant c.pack-info_word.ensures c.requires.small (omega arith);
}

with_info : (c : After-store_info) → IsReady c.args.self.now c.args.tenant c.args.station c.unpack-tag.result.tag (draft_of Info c.args.tenant) c.store_info.new.self
with_info c = stored (found (goal.at.After-store_info c).After-unpack-tag) c.store_info.ensures

pub store_first-requires : goal.store_first-requires
store_first-requires c =
    let r = with_info (goal.at.store_first-requires c).After-store_info in
    record { letting = about_at r; word = operand_at r c.operand_word-first.ensures }

with_first : (c : After-store_first) → IsReady c.args.self.now c.args.tenant c.args.station c.unpack-tag.result.tag (draft_of FirstOperand c.args.tenant) c.store_first.new.self
with_first c = stored (with_info (goal.at.After-store_first c).After-store_info) c.store_first.ensures

pub store_second-requires : goal.store_second-requires
store_second-requires c =
    let r = with_first (goal.at.store_second-requires c).After-store_first in
    record { letting = about_at r; word = operand_at r c.operand_word-second.ensures }

with_both : (c : After-store_second) → IsReady c.args.self.now c.args.tenant c.args.station c.unpack-tag.result.tag (draft_of BothOperands c.args.tenant) c.store_second.new.self
with_both c = stored (with_first (goal.at.After-store_second c).After-store_first) c.store_second.ensures

pub let_tenant-requires : goal.let_tenant-requires
let_tenant-requires c =
    let r = with_both (goal.at.let_tenant-requires c).After-store_second in
    record { letting = about_at r; word = subst (λ z. IsStation (live_word z Open) c.open_word-open.result) (tag_at r) c.open_word-open.ensures }

pub returns : goal.returns
returns c =
    let r = with_both (goal.at.returns c).After-store_second in
    let last = c.let_tenant.ensures in
    record { same = joined r.same last.same; draft = last.grows.kind.draft; tag_is = r.tag_is; out = let_now r last }
