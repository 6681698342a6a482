pub mod RightBits
