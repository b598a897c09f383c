use mathlib.Core.Path.{sym}
use native.Mathlib.Omega.{arith}
use Rattle.rules.specs.Promises.{geometry}
use Rattle.dscb.proofs.Sound.{no_limits}
use Rattle.dscb.proofs.Stops.{sixteen}
use Rattle.dscb.proofs.device.Geometry.of_numbers.Goals as goal

pub returns-in_default : goal.returns-in_default
returns-in_default c =
    let a = c.args in
    let x = geometry a.c a.h a.d a.s a.v in
    sym (no_limits x (λ l. let s = sixteen x l in (rw c.in_default.is-4 at c.try_from-5.ensures) (omega (arith, s.vtoc))))

pub returns-in_default-2 : goal.returns-in_default-2
returns-in_default-2 c =
    let a = c.args in
    let x = geometry a.c a.h a.d a.s a.v in
    sym (no_limits x (λ l. let s = sixteen x l in (rw c.in_default.is-3 at c.try_from-4.ensures) (omega (arith, s.start))))

pub returns-in_default-3 : goal.returns-in_default-3
returns-in_default-3 c =
    let a = c.args in
    let x = geometry a.c a.h a.d a.s a.v in
    sym (no_limits x (λ l. let s = sixteen x l in (rw c.in_default.is-2 at c.try_from-3.ensures) (omega (arith, s.records))))

pub returns-in_default-4 : goal.returns-in_default-4
returns-in_default-4 c =
    let a = c.args in
    let x = geometry a.c a.h a.d a.s a.v in
    sym (no_limits x (λ l. let s = sixteen x l in (rw c.in_default.is-1 at c.try_from-2.ensures) (omega (arith, s.heads))))

pub returns-in_default-5 : goal.returns-in_default-5
returns-in_default-5 c =
    let a = c.args in
    let x = geometry a.c a.h a.d a.s a.v in
    sym (no_limits x (λ l. let s = sixteen x l in (rw c.in_default.is-0 at c.try_from.ensures) (omega (arith, s.cylinders))))
