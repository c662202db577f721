use Rattle.std.proofs.Common.{◌∙◌, ℕ, List, ap, subst}
use Rattle.std.specs.Io.KnownBytes.{Appends}
use Rattle.session.specs.Lines.{IsLine}
use Rattle.session.specs.Scripts.{line_of}
use Rattle.session.specs.Transcripts.{IsWrittenOfLine}
use Rattle.session.specs.Tokens.{tokens_of}
use Rattle.session.proofs.Scripts.{cut_short, on_err, reads}
use Rattle.session.proofs.script.tell_line.Goals as goal

pub returns-clause-line : goal.returns-clause-line
returns-clause-line g c =
    let from = g.I.Read.remaining c.args.reader.now in
    let to = g.I.Read.remaining c.read_until.new.self in
    let chunk = c.read_until.new.buf.items in
    let before = g.W.Write.contents c.args.writer.now.inner in
    let after = g.W.Write.contents c.write_whole.new.writer.inner in
    let text = c.in_ok-text.text.items in
    let same = c.line_in_chunk-line.ensures ∙ ap line_of c.as_slice.ensures.value in
    record {
      chunk = chunk;
      text = text;
      read = reads from to c.new-chunk.result.items chunk c.new-chunk.ensures.items c.in-Ok.ensures.bytes c.in-Ok.ensures.rest;
      line_is = subst (λ (line : List ℕ). IsLine (tokens_of line) c.line_in-asked.result) same c.line_in-asked.ensures;
      told = subst (λ (line : List ℕ). IsWrittenOfLine c.args.echo c.args.session.now c.written.new.session c.args.number line text) same c.in_ok-text.ensures;
      written = subst (λ (bytes : List ℕ). Appends before after bytes) c.as_slice-2.ensures.value c.in_ok-write_whole.ensures.ok;
    }

pub returns-in_err-write_whole-clause-cut : goal.returns-in_err-write_whole-clause-cut
returns-in_err-write_whole-clause-cut g c =
    let from = g.I.Read.remaining c.args.reader.now in
    let to = g.I.Read.remaining c.read_until.new.self in
    let chunk = c.read_until.new.buf.items in
    let read = reads from to c.new-chunk.result.items chunk c.new-chunk.ensures.items c.in-Ok.ensures.bytes c.in-Ok.ensures.rest in
    let told = subst (λ (line : List ℕ). IsWrittenOfLine c.args.echo c.args.session.now c.written.new.session c.args.number line c.in_ok-text.text.items)
    (c.line_in_chunk-line.ensures ∙ ap line_of c.as_slice.ensures.value) c.in_ok-text.ensures in
    on_err c.from_residual-in_err-write_whole.result (cut_short c.args.echo from to c.args.session.now c.written.new.session c.args.number
    (g.W.Write.contents c.args.writer.now.inner) (g.W.Write.contents c.write_whole.new.writer.inner)
    chunk c.in_ok-text.text.items c.as_slice-2.result.now read told
    c.as_slice-2.ensures.value c.in_err-write_whole.ensures.err)
