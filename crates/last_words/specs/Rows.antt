-- Worked rows.
use Rattle.std.specs.Prelude.{◌≡◌, codes, refl}
use Rattle.std.specs.Fmt.{digits}
use Rattle.last_words.specs.Counts.{no_counts, with_connection, with_change, counts_line}

pub nothing_done : counts_line (codes "store") no_counts ≡ codes "lbfs: store: no longer served; connections: 0; changes: 0\n"
unfolding digits
nothing_done = refl

pub some_done : counts_line (codes "a b") (record { connections = 3; changes = 17 }) ≡ codes "lbfs: a b: no longer served; connections: 3; changes: 17\n"
unfolding digits
some_done = refl

pub counted : with_change (with_connection (with_change no_counts)) ≡ record { connections = 1; changes = 2 }
counted = refl
