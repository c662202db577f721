use Rattle.words.proofs.Padding.{padded_by}
use Rattle.words.proofs.executable.padded.Goals as goal

pub returns : goal.returns
returns c =
    padded_by c.args.bytes.now c.in_ok-all.all.items c.resize.new.self.items _ c.in_ok-resize.ensures.items c.in_ok-all.ensures.items
    c.in_ok-all.ensures.len c.requires
