-- `put_files` meets its contract, by the laws of proofs/Made.antt.
use native.Mathlib.Omega.{arith}
use Rattle.reorient_file.proofs.Made.{room_single, room_pair, fits_pair, files_single, files_pair}
use Rattle.reorient_file.proofs.put_files.Goals as goal

pub put_holder-requires : goal.put_holder-requires
put_holder-requires c =
    let a = c.args in
    let same = a.j.placed in
    let r = c.requires in
    let room = room_single a.j.header a.file.now a.image.now _ _ r c.in-Single.is in
    record { t_value = a.j.permutation; sized = a.j.sized; image_value = same; bytes_in_bounds = rw same room; src_in_bounds = r.fits }

pub put_header-requires : goal.put_header-requires
put_header-requires c =
    let a = c.args in
    let r = c.requires in
    record { t_value = a.j.permutation; header_value = a.j.finite; in_bounds = omega (arith, r.long, r.fits, c.put_holder.auto.out) }

pub put_header-requires-in-Pair : goal.put_header-requires-in-Pair
put_header-requires-in-Pair c =
    let a = c.args in
    let r = c.requires in
    record { t_value = a.j.permutation; header_value = a.j.finite; in_bounds = omega (arith, r.long, r.fits, c.copy_in.auto.buf) }

pub put_holder-requires-in-Pair : goal.put_holder-requires-in-Pair
put_holder-requires-in-Pair c =
    let a = c.args in
    let k = c.in-Pair.is in
    let same = a.j.placed in
    let r = c.requires in
    let room = room_pair a.j.header a.file.now a.image.now _ _ r k in
    record { t_value = a.j.permutation; sized = a.j.sized; image_value = same; bytes_in_bounds = rw same room; src_in_bounds = fits_pair a.j.header a.file.now a.image.now _ _ r k }

pub returns-in-Single : goal.returns-in-Single
returns-in-Single c =
    let a = c.args in
    let k = c.in-Single.is in
    let r = c.requires in
    files_single a.j.header a.file.now a.image.now _ _ r a.j.turn _ _ _ _ k a.j.permutation a.j.sized
    c.put_holder.ensures c.put_header.ensures

pub returns-in-Pair : goal.returns-in-Pair
returns-in-Pair c =
    let a = c.args in
    let k = c.in-Pair.is in
    let r = c.requires in
    files_pair a.j.header a.file.now a.image.now _ _ r a.j.turn _ _ _ _ _ k
    c.copy_in.ensures c.put_header-in-Pair.ensures c.put_holder-in-Pair.ensures
