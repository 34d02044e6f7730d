-- "each swap unit of the image" is turned round (01-scope.md, "Voxels and byte order"): what that makes of one voxel's bytes.
use Rattle.std.specs.Prelude.{ℕ, ◌/◌, List, length}
use Rattle.units.specs.Units.{turned}

-- a voxel's bytes with each swap unit turned round, each in its place
abbrev pub turned_voxel : ℕ → List ℕ → List ℕ
turned_voxel unit voxel = turned unit (length voxel / unit) voxel
