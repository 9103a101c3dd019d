-- Worked traces.
use Rattle.std.specs.Prelude.{◌≡◌, ◌-◌, ◌^◌, [], ◌∷◌, codes, refl}
use Rattle.std.specs.Fmt.{digits}
use Rattle.trace_generator.specs.Lines.{opening_lines, block_lines, generated_lines, generated_text, text_of}

-- a block that changes its file: 27 lines
pub changing : generated_text 31 1 ≡ codes "lbfs-trace 1\nterm 1000\ndrift 50\nclients 4\nfile f1 r:32:9000\nfile f2 r:33:9000\nfile f3 r:34:9000\nfile f4 r:35:9000\nfile f5 r:36:9000\nfile f6 r:37:9000\nfile f7 r:38:9000\nfile f8 r:39:9000\njoin 1 0 0\njoin 2 0 0\njoin 3 0 0\njoin 4 0 0\ndo 1 10 open #2\npass 1 40 10 10\ndo 1 10 write #2 1184 t:1\ndo 1 10 close #2\npass 1 40 10 10\npass 1 2 10 10\npass 2 2 10 10\npass 3 2 10 10\npass 4 2 10 10\nsettle 10\npass 1 2 10 10\n"
unfolding digits opening_lines block_lines text_of
changing = refl

-- one that leaves it as it was: 19 lines
pub leaving : generated_text 0 1 ≡ codes "lbfs-trace 1\nterm 1000\ndrift 50\nclients 4\nfile f1 r:1:9000\nfile f2 r:2:9000\nfile f3 r:3:9000\nfile f4 r:4:9000\nfile f5 r:5:9000\nfile f6 r:6:9000\nfile f7 r:7:9000\nfile f8 r:8:9000\njoin 1 0 0\njoin 2 0 0\njoin 3 0 0\njoin 4 0 0\ndo 2 10 open #2\npass 2 40 10 10\ndo 2 10 abandon #2\n"
unfolding digits opening_lines block_lines text_of
leaving = refl

-- the greatest seed: the files' seeds begin anew, and the choices are those of 0 from the second block on
pub greatest : generated_lines (2 ^ 64 - 1) 2 ≡ codes "lbfs-trace 1" ∷ codes "term 1000" ∷ codes "drift 50" ∷ codes "clients 4" ∷ codes "file f1 r:0:9000" ∷ codes "file f2 r:1:9000" ∷ codes "file f3 r:2:9000" ∷ codes "file f4 r:3:9000" ∷ codes "file f5 r:4:9000" ∷ codes "file f6 r:5:9000" ∷ codes "file f7 r:6:9000" ∷ codes "file f8 r:7:9000" ∷ codes "join 1 0 0" ∷ codes "join 2 0 0" ∷ codes "join 3 0 0" ∷ codes "join 4 0 0" ∷ codes "do 1 10 open #2" ∷ codes "pass 1 40 10 10" ∷ codes "do 1 10 abandon #2" ∷ codes "do 2 20 open #2" ∷ codes "pass 2 40 20 20" ∷ codes "do 2 20 abandon #2" ∷ []
unfolding digits opening_lines block_lines
greatest = refl

-- the choice of the first block is 0 here too, where the files are others
pub wraps : block_lines (2 ^ 32 - 1) 1 ≡ codes "do 1 10 open #2" ∷ codes "pass 1 40 10 10" ∷ codes "do 1 10 abandon #2" ∷ []
unfolding digits block_lines
wraps = refl

-- the last block that a trace may have, at the greatest choice
pub last_block : block_lines (2 ^ 32 - 5001) 5000 ≡ codes "do 4 50000 open #9" ∷ codes "pass 4 40 50000 50000" ∷ codes "do 4 50000 write #9 6915 t:5000" ∷ codes "do 4 50000 close #9" ∷ codes "pass 4 40 50000 50000" ∷ codes "pass 1 2 50000 50000" ∷ codes "pass 2 2 50000 50000" ∷ codes "pass 3 2 50000 50000" ∷ codes "pass 4 2 50000 50000" ∷ codes "settle 50000" ∷ codes "pass 4 2 50000 50000" ∷ []
unfolding digits block_lines
last_block = refl
