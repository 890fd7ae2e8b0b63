use Rattle.std.proofs.Common.{◌≡◌, length, sym, ap, subst, ◌∙◌, arith, rules}
use Rattle.rv_model.specs.Image.{ImageParts}
use Rattle.rv_asm.specs.LayoutView.{layout_view}
use Rattle.rv_asm.specs.Spelling.{IsSpellingOf}
use Rattle.rv_asm.specs.Assembly.{entry_of, Assembly}
use Rattle.rv_asm.proofs.Assembling.{fails_first, fails_second, described, has_no_entry, entry_there, entry_missing}
use Rattle.rv_asm.proofs.assembly.assemble.Goals as goal

pub returns-in_err-layout : goal.returns-in_err-layout
returns-in_err-layout c =
    let known = fails_first c.args.text.now c.in_err-layout.field-0.0 c.in_err-layout.ensures in
    search rules

pub returns-in_err-bytes : goal.returns-in_err-bytes
returns-in_err-bytes c =
    let known = fails_second c.args.text.now (layout_view c.in_ok-layout.layout) c.in_err-bytes.field-0.0 c.in_ok-layout.ensures c.in_err-bytes.ensures.parts in
    search rules

pub returns-in-Ok : goal.returns-in-Ok
returns-in-Ok c =
    let layout = layout_view c.in_ok-layout.layout in
    let parts = c.in_ok-bytes.ensures.parts.0 in
    let len : length c.in_ok-bytes.bytes.items ≡ layout.size = omega (arith, c.in_ok-bytes.bytes.ok.0, c.in_ok-bytes.ensures.size) in
    let begins = entry_there layout c.in_ok-bytes.bytes.items _ c.entry_of.ensures len c.in_ok-layout.layout.fits c.in-Ok.ensures.fault in
    let assembly : Assembly = record { entry = entry_of layout.names; parts = parts } in
    let same = c.in-Ok.ensures.same in (
      assembly,
      described c.args.text.now layout parts c.in_ok-layout.ensures c.in_ok-bytes.ensures.parts.1 begins,
      record {
        entry = ap (λ (image : ImageParts). image.entry) same ∙ c.entry_of.ensures;
        loaded = subst (λ (image : ImageParts). IsSpellingOf parts image.loaded) (sym same) c.in_ok-bytes.ensures.parts.2;
        zero = ap (λ (image : ImageParts). image.zero) same;
      },
    )

pub returns : goal.returns
returns c =
    let layout = layout_view c.in_ok-layout.layout in
    let len : length c.in_ok-bytes.bytes.items ≡ layout.size = omega (arith, c.in_ok-bytes.bytes.ok.0, c.in_ok-bytes.ensures.size) in
    let missing = entry_missing layout c.in_ok-bytes.bytes.items _ c.in-Err.field-0 c.entry_of.ensures len c.in_ok-layout.layout.fits c.in-Err.ensures.fault in
    has_no_entry c.args.text.now layout c.in_ok-bytes.ensures.parts.0 c.in_ok-layout.ensures c.in_ok-bytes.ensures.parts.1 missing
