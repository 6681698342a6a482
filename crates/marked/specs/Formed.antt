-- What is well formed and what is not, on words: each clause of the reference at its smallest violation, which 2 refuses, and a neighbour.
use Rattle.std.specs.Prelude.{ℕ, List, [], ◌∷◌, ◌++◌, replicate}
use Rattle.chain.specs.Answers.{refused}
use Rattle.chain.specs.Steps as steps
use Rattle.chain.specs.Steps.{Step, name}
use Rattle.chain.specs.Operations.{Buffers}
use Rattle.marked.specs.Row.{Row, answers, padded, words, small}

-- A step of client 16, which no log has: refused by 1 for a length, by 2 for a word, and by 3 on every log.
abbrev nobody : Step
nobody = steps.by (replicate 16 0) 16 name

abbrev malformed : Buffers → Row
malformed b = answers b nobody (refused 2)

abbrev formed : Buffers → Row
formed b = answers b nobody (refused 3)

-- A client that remembers nothing, and a log with this head, one such client and nothing else.
abbrev none : ℕ
none = 0x0800020000000000

abbrev headed : ℕ → Buffers
headed h = small h (none ∷ []) [] [] []

-- A log of one open ledger and one client with this word.
abbrev remembers : ℕ → Buffers
remembers w = small 0x0000080002000000 (w ∷ []) (0x8000000000000000 ∷ []) [] []

-- One whose one ledger has this word.
abbrev stores : ℕ → Buffers
stores w = small 0x0000080002000000 (none ∷ []) (w ∷ []) [] []

-- One with these list places, and one with these entries, by a head with their number.
abbrev lists : ℕ → List ℕ → Buffers
lists h ps = small h (none ∷ []) (0x8000000000000000 ∷ []) ps []

abbrev holds : ℕ → List ℕ → List ℕ → Buffers
holds h ls es = small h (none ∷ []) ls [] es

-- Lengths: 527 words of state, and 512 or 4,096 of entries.
unfoldable pub length_rows : List Row
length_rows =
    answers (words 0x0000040002000000 (none ∷ []) [] [] (replicate 511 0)) nobody (refused 1)
    ∷ answers (words 0x0000040002000000 (none ∷ []) [] [] (replicate 513 0)) nobody (refused 1)
    ∷ answers (words 0x0000040002000000 (none ∷ []) [] [] (replicate 4095 0)) nobody (refused 1)
    ∷ answers (record { state = 0x0000040002000000 ∷ padded 525 (none ∷ []); entries = replicate 512 0 }) nobody (refused 1)
    ∷ answers (record { state = 0x0000040002000000 ∷ padded 527 (none ∷ []); entries = replicate 512 0 }) nobody (refused 1)
    ∷ []

-- The entry count up to the entry buffer's length; the next number 1 to 256; the client count 1 to 16; the leader below it; stray bits.
unfoldable pub head_rows : List Row
head_rows =
    formed (holds 0x1000080002000000 (0x8000000000000000 ∷ []) (replicate 512 0x0100000000000000))
    ∷ malformed (holds 0x1008080002000000 (0x8000000000000000 ∷ []) (replicate 512 0x0100000000000000))
    ∷ formed (words 0x8000080002000000 (none ∷ []) (0x8000000000000000 ∷ []) [] (replicate 4096 0x0100000000000000))
    ∷ malformed (words 0x8008080002000000 (none ∷ []) (0x8000000000000000 ∷ []) [] (replicate 4096 0x0100000000000000))
    ∷ malformed (headed 0x0000000002000000)
    ∷ formed (headed 0x0000040002000000)
    ∷ formed (small 0x0004000002000000 (none ∷ []) (replicate 255 0x0080000000000000) [] [])
    ∷ malformed (small 0x0004040002000000 (none ∷ []) (replicate 255 0x0080000000000000) [] [])
    ∷ malformed (small 0x0000040000000000 [] [] [] [])
    ∷ formed (small 0x0000040020000000 (replicate 16 none) [] [] [])
    ∷ malformed (small 0x0000040022000000 (replicate 16 none) [] [] [])
    ∷ malformed (headed 0x0000040042000000)
    ∷ formed (small 0x0000040044000000 (none ∷ none ∷ []) [] [] [])
    ∷ malformed (headed 0x0000040002000001)
    ∷ malformed (headed 0x0000040003000000)
    ∷ []

-- Unused words, stray bits, leads and stage, the list version, and what a client remembers of a ledger.
unfoldable pub client_rows : List Row
client_rows =
    malformed (small 0x0000040002000000 (none ∷ none ∷ []) [] [] [])
    ∷ formed (small 0x0000040004000000 (none ∷ none ∷ []) [] [] [])
    ∷ malformed (remembers 0x0800020000000001)
    ∷ malformed (remembers 0x0800020080000000)
    ∷ malformed (remembers 0xF800020000000000)
    ∷ formed (remembers 0xE800020000000000)
    ∷ malformed (remembers 0x8800020000000000)
    ∷ malformed (remembers 0x1800020000000000)
    ∷ formed (remembers 0x9800020000000000)
    ∷ malformed (remembers 0x0808020000000000)
    ∷ malformed (remembers 0x0FF8020000000000)
    ∷ formed (remembers 0x07F8020000000000)
    ∷ malformed (remembers 0x0800000000000000)
    ∷ malformed (remembers 0x080001FE00000000)
    ∷ malformed (remembers 0x0800020200000000)
    ∷ malformed (remembers 0x0800060000000000)
    ∷ malformed (remembers 0x0800020100000000)
    ∷ malformed (remembers 0x08000A0000000000)
    ∷ malformed (remembers 0x0800080000000000)
    ∷ malformed (remembers 0x0800080600000000)
    ∷ malformed (remembers 0x08000C0200000000)
    ∷ malformed (remembers 0x0800080100000000)
    ∷ malformed (remembers 0x0800080500000000)
    ∷ malformed (remembers 0x08000C0100000000)
    ∷ formed (small 0x0000080008000000 (0x08000C0000000000 ∷ 0x0800080200000000 ∷ 0x0800080400000000 ∷ 0x0800080300000000 ∷ []) (0x8000000000000000 ∷ []) [] [])
    ∷ malformed (remembers 0x0800140000000000)
    ∷ formed (small 0x00000C0002000000 (0x0800140000000000 ∷ []) (0x0080000000000000 ∷ 0x8000000000000000 ∷ []) [] [])
    ∷ []

-- Open with version 0, closed with 1 or 2, either fenced or not, and recovering fenced with 1; unused words and stray bits.
unfoldable pub ledger_rows : List Row
ledger_rows =
    formed (small 0x0000200002000000 (none ∷ []) (0x8000000000000000 ∷ 0x8040000000000000 ∷ 0x0080000000000000 ∷ 0x00C0000000000000
    ∷ 0x0100000000000000 ∷ 0x0140000000000000 ∷ 0x00E0000000000000 ∷ []) [] [])
    ∷ malformed (stores 0x0000000000000000)
    ∷ malformed (stores 0x0040000000000000)
    ∷ malformed (stores 0x0180000000000000)
    ∷ malformed (stores 0x8080000000000000)
    ∷ malformed (stores 0x00A0000000000000)
    ∷ malformed (stores 0x0160000000000000)
    ∷ malformed (stores 0x8060000000000000)
    ∷ malformed (stores 0x0060000000000000)
    ∷ malformed (stores 0x8010000000000000)
    ∷ malformed (stores 0x8000000000000001)
    ∷ malformed (small 0x0000040002000000 (none ∷ []) (0x8000000000000000 ∷ []) [] [])
    ∷ []

-- List places and entries: of created ledgers, clients below the count, numbers that never fall, zero behind the last.
unfoldable pub place_rows : List Row
place_rows =
    formed (lists 0x0000080402000000 (0x0100000000000000 ∷ []))
    ∷ malformed (lists 0x0000080402000000 [])
    ∷ malformed (lists 0x0000080402000000 (0x0200000000000000 ∷ []))
    ∷ malformed (lists 0x0000080402000000 (0x0180000000000000 ∷ []))
    ∷ malformed (lists 0x0000080402000000 (0x0100000000000001 ∷ []))
    ∷ malformed (lists 0x0000080402000000 (0x0100000000000000 ∷ 0x0100000000000000 ∷ []))
    ∷ formed (lists 0x00000BFC02000000 (replicate 255 0x0100000000000000))
    ∷ []

unfoldable pub entry_rows : List Row
entry_rows =
    formed (holds 0x0008080002000000 (0x8000000000000000 ∷ []) (0x0100000000000005 ∷ []))
    ∷ malformed (holds 0x0008080002000000 (0x8000000000000000 ∷ []) (0x0110000000000005 ∷ []))
    ∷ formed (small 0x0008080020000000 (replicate 16 none) (0x8000000000000000 ∷ []) [] (0x01F0000000000005 ∷ []))
    ∷ malformed (holds 0x0008080002000000 (0x8000000000000000 ∷ []) (0x0000000000000005 ∷ []))
    ∷ malformed (holds 0x0008080002000000 (0x8000000000000000 ∷ []) (0x0200000000000005 ∷ []))
    ∷ malformed (holds 0x00100C0002000000 (0x0080000000000000 ∷ 0x8000000000000000 ∷ []) (0x0200000000000005 ∷ 0x0100000000000005 ∷ []))
    ∷ formed (holds 0x00100C0002000000 (0x0080000000000000 ∷ 0x8000000000000000 ∷ []) (0x0100000000000005 ∷ 0x0100000000000005 ∷ []))
    ∷ formed (holds 0x00100C0002000000 (0x0080000000000000 ∷ 0x8000000000000000 ∷ []) (0x0100000000000005 ∷ 0x0200000000000005 ∷ []))
    ∷ malformed (holds 0x0008080002000000 (0x8000000000000000 ∷ []) (0x0100000000000005 ∷ 0x0100000000000005 ∷ []))
    ∷ []

unfoldable pub formed_rows : List Row
formed_rows = length_rows ++ (head_rows ++ (client_rows ++ (ledger_rows ++ (place_rows ++ entry_rows))))
