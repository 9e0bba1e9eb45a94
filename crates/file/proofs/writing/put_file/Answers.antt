-- `put_file` meets its contract: the sections, and zeros behind them.
use mathlib.Core.Path.{◌≡◌, ap, ◌∙◌}
use Prim.Native.Nat.{ℕ, ◌-◌}
use native.Mathlib.Omega.{arith}
use borrow.Rule.Slice.PartMut.{put_mid}
use lib.ListN.{length, take, drop, replicate}
use Rattle.file.specs.Contents.{content_of}
use Rattle.file.specs.Sections.{encoded}
use Rattle.file.proofs.Putting.{tail_long, cleared}
use Rattle.file.proofs.writing.put_file.Goals as goal

pub returns-clause-written : goal.returns-clause-written
returns-clause-written c =
    let a = c.args in
    let content = content_of a.contents in
    let put = c.put_sections-end in
    let filled = put.new.area in
    let n = length (encoded content) in
    let long : length filled ≡ length a.area.now = put.auto.area in
    let rest : length (take (length filled - put.result) (drop put.result filled)) ≡ length filled - n =
    tail_long filled put.result (omega (arith, put.ensures.behind, long, c.requires)) ∙ ap (λ (k : ℕ). length filled - k) put.ensures.behind in
    let zeros = c.fill.ensures.after (λ y e. e) ∙ ap (λ (k : ℕ). replicate k 0) rest in
    ap (λ (k : ℕ). put_mid k (length filled - k) filled c.fill.new.self) put.ensures.behind
    ∙ cleared content a.area.now filled _ put.ensures.written zeros c.requires
