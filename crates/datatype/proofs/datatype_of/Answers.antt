-- `datatype_of` meets its contract: each arm's code has its entry in the table, and bits that no arm names have none.
use Prim.Native.Nat.{ℕ}
use mathlib.Core.Path.{refl}
use borrow.Author.Tests.{ne_eqb}
use mir.Syntax.{w16}
use mir.Val.{of_z}
use Rattle.datatype.proofs.Bits.{by_bits_lem}
use Rattle.datatype.proofs.datatype_of.Goals as goal

pub returns-in-2 : goal.returns-in-2
returns-in-2 c = by_bits_lem c.args.code 2 c.ranges.code c.in-2.in-2-own.keys1 c.known.ensures

pub returns-in-4 : goal.returns-in-4
returns-in-4 c = by_bits_lem c.args.code 4 c.ranges.code c.in-4.in-4-own.keys2 c.known-in-4.ensures

pub returns-in-8 : goal.returns-in-8
returns-in-8 c = by_bits_lem c.args.code 8 c.ranges.code c.in-8.in-8-own.keys3 c.known-in-8.ensures

pub returns-in-16 : goal.returns-in-16
returns-in-16 c = by_bits_lem c.args.code 16 c.ranges.code c.in-16.in-16-own.keys4 c.known-in-16.ensures

pub returns-in-32 : goal.returns-in-32
returns-in-32 c = by_bits_lem c.args.code 32 c.ranges.code c.in-32.in-32-own.keys5 c.known-in-32.ensures

pub returns-in-64 : goal.returns-in-64
returns-in-64 c = by_bits_lem c.args.code 64 c.ranges.code c.in-64.in-64-own.keys6 c.known-in-64.ensures

pub returns-in-128 : goal.returns-in-128
returns-in-128 c = by_bits_lem c.args.code 128 c.ranges.code c.in-128.in-128-own.keys7 c.known-in-128.ensures

pub returns-in-256 : goal.returns-in-256
returns-in-256 c = by_bits_lem c.args.code 256 c.ranges.code c.in-256.in-256-own.keys8 c.known-in-256.ensures

pub returns-in-512 : goal.returns-in-512
returns-in-512 c = by_bits_lem c.args.code 512 c.ranges.code c.in-512.in-512-own.keys9 c.known-in-512.ensures

pub returns-in-768 : goal.returns-in-768
returns-in-768 c = by_bits_lem c.args.code 768 c.ranges.code c.in-768.in-768-own.keys10 c.known-in-768.ensures

pub returns-in-1024 : goal.returns-in-1024
returns-in-1024 c = by_bits_lem c.args.code 1024 c.ranges.code c.in-1024.in-1024-own.keys11 c.known-in-1024.ensures

pub returns-in-1280 : goal.returns-in-1280
returns-in-1280 c = by_bits_lem c.args.code 1280 c.ranges.code c.in-1280.in-1280-own.keys12 c.known-in-1280.ensures

pub returns-in-1536 : goal.returns-in-1536
returns-in-1536 c = by_bits_lem c.args.code 1536 c.ranges.code c.in-1536.in-1536-own.keys13 c.known-in-1536.ensures

pub returns-in-1792 : goal.returns-in-1792
returns-in-1792 c = by_bits_lem c.args.code 1792 c.ranges.code c.in-1792.in-1792-own.keys14 c.known-in-1792.ensures

pub returns-in-2048 : goal.returns-in-2048
returns-in-2048 c = by_bits_lem c.args.code 2048 c.ranges.code c.in-2048.in-2048-own.keys15 c.known-in-2048.ensures

pub returns-in-2304 : goal.returns-in-2304
returns-in-2304 c = by_bits_lem c.args.code 2304 c.ranges.code c.in-2304.in-2304-own.keys16 c.known-in-2304.ensures

pub returns-in_default : goal.returns-in_default
returns-in_default c =
    let z = c.args.code in
    let n : ℕ = of_z w16 z in
    let no = c.in_default.in_default-own.rest in
    by_bits_lem z n c.ranges.code refl (simp (
      ne_eqb n 2 no.0.0.0.0.0.0.0.0.0.0.0.0.0.0.0.1,
      ne_eqb n 4 no.0.0.0.0.0.0.0.0.0.0.0.0.0.0.1,
      ne_eqb n 8 no.0.0.0.0.0.0.0.0.0.0.0.0.0.1,
      ne_eqb n 16 no.0.0.0.0.0.0.0.0.0.0.0.0.1,
      ne_eqb n 32 no.0.0.0.0.0.0.0.0.0.0.0.1,
      ne_eqb n 64 no.0.0.0.0.0.0.0.0.0.0.1,
      ne_eqb n 128 no.0.0.0.0.0.0.0.0.0.1,
      ne_eqb n 256 no.0.0.0.0.0.0.0.0.1,
      ne_eqb n 512 no.0.0.0.0.0.0.0.1,
      ne_eqb n 768 no.0.0.0.0.0.0.1,
      ne_eqb n 1024 no.0.0.0.0.0.1,
      ne_eqb n 1280 no.0.0.0.0.1,
      ne_eqb n 1536 no.0.0.0.1,
      ne_eqb n 1792 no.0.0.1,
      ne_eqb n 2048 no.0.1,
      ne_eqb n 2304 no.1,
    ))
