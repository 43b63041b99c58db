use Rattle.std.proofs.Common.{◌≡◌, ◌≤◌, ◌++◌, map, length, drop, vec_items, vec_len, vec_capacity}
use Rattle.board.specs.Machine.{seen}
use Rattle.script.specs.Account.{all_told, finally}
use Rattle.script.specs.Request.{request, told}
use Rattle.script.proofs.playing.play.Given as goal

-- what was told, with what is to be told, is what the account tells
abbrev pub invariant-loop-call : goal.invariant-loop-call
invariant-loop-call g l =
    let b = g.B.Bus in
    b.sound l.board.bus × (vec_len l.replies ≡ l.call-index) × (length l.script ≤ vec_capacity l.replies)
    × (map told (vec_items l.replies) ++ all_told b.rules (seen b.means l.board) (map request (drop l.call-index l.script))
    ≡ all_told b.rules (seen b.means l.initial.board) (map request l.script))
    × (finally b.rules (seen b.means l.board) (map request (drop l.call-index l.script))
    ≡ finally b.rules (seen b.means l.initial.board) (map request l.script))
