mod Agreement
