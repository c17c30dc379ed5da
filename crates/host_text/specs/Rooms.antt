-- The most bytes that the lines of a host take.
use Rattle.std.specs.Prelude.{ℕ, ◌+◌, ◌*◌}

-- nine numbers of 20 digits, a space before each, and the line's end
abbrev pub vcpu_room : ℕ
vcpu_room = 190

-- the mark, three numbers and the line's end
abbrev pub pcpu_room : ℕ
pcpu_room = 66

abbrev pub vcpus_room : ℕ
vcpus_room = 128 * vcpu_room

abbrev pub pcpus_room : ℕ
pcpus_room = 64 * pcpu_room

abbrev pub host_room : ℕ
host_room = vcpus_room + pcpus_room
