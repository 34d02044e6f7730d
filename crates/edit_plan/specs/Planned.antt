-- What is known of an edit before the first byte is stored: its refusal, or the numbers that it is carried out by. The promises
-- of append, replace and remove do not speak of these; they are the promises of the steps between.
use Rattle.refusal.specs.declared.Refusal.{Refusal}
use Rattle.std.specs.Prelude.{ℕ, ◌+◌, ◌-◌, Bool, true, List, ℤ, length, take, Ok, Err, Result}
use Rattle.field.specs.Numbers.{joined}
use Rattle.refusal.specs.Table.{decided}
use Rattle.extension.specs.Walk.{first_place}
use Rattle.header.specs.declared.Kind.{Kind}
use Rattle.header.specs.declared.Kind.TheVariants.{Single, Pair}
use Rattle.layout.specs.File.{order_of, kind_of, aligned_file}
use Rattle.change.specs.declared.Change.{Change}
use Rattle.edit_plan.specs.declared.Plan.{Plan}
use Rattle.edit_plan.specs.Fresh.{extension_list, out_from, out_to, brought_in, edited_list, end_for}
use Rattle.edit_plan.specs.Refusals.{change_verdict}

-- how many bytes the extensions before the i-th take
abbrev pub bytes_before : List ℕ → ℕ → ℕ
bytes_before f i = length (joined (take i (extension_list f)))

-- how many bytes go out
abbrev pub bytes_out : List ℕ → Change → ℕ
bytes_out f change = bytes_before f (out_to change (length (extension_list f))) - bytes_before f (out_from change (length (extension_list f)))

-- whether the new file's voxel offset is aligned: a single file's always is, and a pair's stays as it was. The law `aligned_is`
-- (edit/Rereading) has it of the fresh file.
abbrev pub aligned_after : Kind → Bool → Bool
aligned_after Single old = true
aligned_after Pair old = old

-- the place where extensions go out, the bytes that go out there, those that come in, where the region ends then, and whether the
-- new offset is aligned
unfoldable pub plan_of : List ℕ → Change → ℤ → List ℕ → Plan
plan_of f change code p =
    record {
      order = order_of f;
      kind = kind_of f;
      at = first_place + bytes_before f (out_from change (length (extension_list f)));
      old = bytes_out f change;
      new = length (joined (brought_in (order_of f) change code p));
      end = end_for (edited_list f change code p);
      aligned = aligned_after (kind_of f) (aligned_file f);
    }

unfoldable pub planned_of : List ℕ → ℕ → Change → ℤ → List ℕ → Result Plan Refusal
planned_of f room change code p = decided (change_verdict f room change code p) (Ok (plan_of f change code p)) Err
