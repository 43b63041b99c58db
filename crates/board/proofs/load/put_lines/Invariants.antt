-- The lines so far are put, and the bytes of those left fall on memory.
use Rattle.std.proofs.Common.{◌≡◌, drop}
use Rattle.image.specs.Checking.{data_of, image_data}
use Rattle.image.specs.Lines.{lines_of}
use Rattle.board.specs.Load.{put_data}
use Rattle.board.proofs.Loading.{Placed}
use Rattle.board.proofs.load.put_lines.Given as goal

abbrev pub invariant-loop-line : goal.invariant-loop-line
invariant-loop-line g l =
    g.B.Bus.sound l.bus
    × (put_data g.B.Bus.rules (g.B.Bus.means l.bus) (data_of (lines_of (drop l.line-iterator.place l.image))) ≡ put_data g.B.Bus.rules (g.B.Bus.means l.initial.bus) (image_data l.image))
    × Placed g.B.Bus.rules (g.B.Bus.means l.bus) (data_of (lines_of (drop l.line-iterator.place l.image)))
    × (l.line-iterator.image.now ≡ l.image)
