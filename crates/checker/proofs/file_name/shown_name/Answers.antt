use Rattle.std.proofs.Common.{◌≡◌, ◌∙◌, ap, chars, sym}
use Rattle.std.specs.Prelude.{flat_map}
use Rattle.std.proofs.lemmas.Iterator.{YieldsList-from_chars}
use Rattle.std.proofs.lemmas.Iterator.Consumers.{YieldsList-end}
use Rattle.std.proofs.lemmas.List.{map-id}
use Rattle.checker.specs.Names.{shown_character}
use Rattle.checker.proofs.file_name.shown_name.Goals as goal

pub returns : goal.returns
returns c =
    let items = c.loop-character.yielded in
    let all = YieldsList-end (YieldsList-from_chars c.args.file.now c.utf8.file cc) items _ c.loop-character.yielded_by _ _ c.in-None.is c.next.ensures.steps in
    let same : items ≡ chars c.args.file.now = sym (map-id items) ∙ all.0 in
    c.loop-character.invariant ∙ ap (flat_map shown_character) same
