-- What the code's layout stands for.
use Rattle.rv_asm.specs.declared.layout.Layout.{Layout}
use Rattle.ce_text.specs.Names.{meanings_of}
use Rattle.rv_asm.specs.FirstPass.{LayoutSoFar, layout_of}

abbrev pub layout_view : Layout → LayoutSoFar
layout_view layout = layout_of (meanings_of layout.symbols) layout.statements.items layout.size
