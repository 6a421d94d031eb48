-- How large what is read, made, shown and run may be, each number by name. Code has those that it needs as constants of the same names.
use Rattle.std.specs.Prelude.{ℕ}

-- ---- numbers in texts, and numbers of threads, mailboxes, messages and variables

-- the greatest one
abbrev pub most_number : ℕ
most_number = 4294967295

-- how many there are
abbrev pub number_count : ℕ
number_count = 4294967296

-- ---- programs as they are written

-- open brackets and operators
abbrev pub most_open : ℕ
most_open = 255

-- open statements
abbrev pub most_statements : ℕ
most_statements = 4095

-- ---- patterns, and what shows that one lies in another

-- the nodes of a pattern
abbrev pub most_nodes : ℕ
most_nodes = 65536

-- its levels
abbrev pub most_levels : ℕ
most_levels = 16384

-- the linear sets of a closed form, and of what is made on the way to it
abbrev pub most_sets : ℕ
most_sets = 4096

-- the points of a grid
abbrev pub most_points : ℕ
most_points = 65536

-- the nodes of a tree that refutes
abbrev pub most_tree_nodes : ℕ
most_tree_nodes = 4096

-- ---- runs and histories

-- the steps of a run
abbrev pub most_steps : ℕ
most_steps = 1000000

-- the messages that may be pending in a run
abbrev pub most_messages : ℕ
most_messages = 1000000

-- the threads that run a program together
abbrev pub most_workers : ℕ
most_workers = 64

-- the entries of a history that is put in order
abbrev pub most_entries : ℕ
most_entries = 4096
