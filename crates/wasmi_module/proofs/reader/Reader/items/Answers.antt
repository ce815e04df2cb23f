use Rattle.std.proofs.Common.{◌≡◌, length, map, arith, length-append}
use Rattle.std.proofs.lemmas.List.{map_push}
use Rattle.std.proofs.lemmas.List.Elements.{All-push}
use Rattle.wasmi_module.specs.Texts.{Each}
use Rattle.wasmi_module.specs.inner.Reading.{Reads}
use Rattle.wasmi_module.proofs.ReadLemmas.{reads-each_push}
use Rattle.wasmi_module.proofs.LacksLemmas.{passed}
use Rattle.wasmi_module.proofs.LacksItems.{each_step, each_all, each_lacks}
use Rattle.wasmi_module.proofs.reader.Reader.items.Goals as goal

pub loop-preserved : goal.loop-preserved
loop-preserved g c =
    let plain = g.T.Item.plain in
    let known = map plain c.loop.items.items in
    let x = plain c.in_ok-read.field-0 in
    let pushed = map_push plain c.loop.items.items c.in_ok-read.field-0 in
    rw c.in_ok-push.ensures.items (rw pushed (record {
      len = simp length-append (omega arith);
      each = reads-each_push g.T.Item.writes known x c.args.self.now c.loop.self c.read.new.reader c.loop.invariant.each c.in_ok-read.ensures.written;
      valid = All-push (g.T.Item.valid c.args.counts.now) known x c.loop.invariant.valid c.in_ok-read.ensures.valid;
      only = λ xs after lt h. each_step g.T.Item.writes xs c.loop.counter known x c.read.new.reader after (omega arith) c.in_ok-read.ensures.only (c.loop.invariant.only xs after (omega arith) h);
    }))

pub returns-in_err-read-clause-lacks : goal.returns-in_err-read-clause-lacks
returns-in_err-read-clause-lacks g c =
    passed c.in_err-read.field-0.0 c.from_residual-in_err-read.result c.from_residual-in_err-read.ensures.1
    (λ other. each_lacks g.T.Item.writes (g.T.Item.valid c.args.counts.now) c.args.count c.loop.counter (map g.T.Item.plain c.loop.items.items) c.args.self.now c.loop.self c.loop-test.true
    c.loop.invariant.only (c.in_err-read.ensures.lacks other))

pub returns-clause-only : goal.returns-clause-only
returns-clause-only g c = record {
  same = λ xs rest h.
      let len : length xs ≡ c.args.count = h.is_text.holds in
      let read : Reads (Each g.T.Item.writes xs) c.args.self.now rest = record { text = h.text; is_text = h.is_text.written; parts = h.parts } in
      each_all g.T.Item.writes xs c.loop.counter (map g.T.Item.plain c.loop.items.items) (omega arith) (c.loop.invariant.only xs rest (omega arith) read);
}
