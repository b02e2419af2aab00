-- `text::put::put_number` meets its contract: the last digit stands behind those of a tenth. Assumes nothing.
use Prim.Native.Nat.{◌/◌, ◌%◌}
use native.Mathlib.Omega.{arith}
use mathlib.Core.Path.{refl, sym}
use Rattle.text.proofs.Numbers.{digits_one, digits_last}
use Rattle.text.proofs.Puts.{put_then, put_same}
use Rattle.text.proofs.put.+put_number.Goals as goal

pub returns-then-value-lt10 : goal.returns-then-value-lt10
returns-then-value-lt10 t c = put_same (sym (digits_one _ c.if-value-lt10.true)) c.put.ensures

pub returns : goal.returns
returns t c =
    let x = c.args.value in
    put_same (sym (digits_last x (x / 10) (x % 10) refl refl c.if-value-lt10.false))
    (put_then (omega arith) c.put_number-p.ensures c.put-2.ensures)
