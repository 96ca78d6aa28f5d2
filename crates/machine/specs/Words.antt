-- Protections and inheritances as the numbers that callers write.
use Rattle.std.specs.Prelude.{ℕ, zero, suc, Ok, Err, Result, nat_le, if◌then◌else◌}
use Rattle.machine.specs.declared.words.Protection.{Protection}
use Rattle.machine.specs.declared.words.Protection.TheVariants.{Read, ReadWrite, None as Closed}
use Rattle.machine.specs.declared.words.Inheritance.{Inheritance}
use Rattle.machine.specs.declared.words.Inheritance.TheVariants.{Share, Copy, None as Left}
use Rattle.machine.specs.declared.words.UnknownNumber.{UnknownNumber}

-- 0 none, 1 read, 2 read and write
abbrev pub protection_at : ℕ → Protection
protection_at zero = Closed
protection_at (suc zero) = Read
protection_at (suc (suc n)) = ReadWrite

-- 0 none, 1 share, 2 copy
abbrev pub inheritance_at : ℕ → Inheritance
inheritance_at zero = Left
inheritance_at (suc zero) = Share
inheritance_at (suc (suc n)) = Copy

-- what a caller's number stands for, of the words that 0, 1 and 2 stand for; any other number is an error
abbrev pub numbered : {W : Type 0} → (ℕ → W) → ℕ → Result W UnknownNumber
numbered at n = if nat_le n 2 then Ok (at n) else Err (record { 0 = n })

-- the number of a protection
abbrev pub rank : Protection → ℕ
rank Closed = 0
rank Read = 1
rank ReadWrite = 2
